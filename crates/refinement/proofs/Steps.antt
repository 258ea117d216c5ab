-- One step of a walk keeps the point and the side of the corner.
use Rattle.std.proofs.Common.{◌≡◌, ℕ, ◌+◌, ◌*◌, ◌%◌, ◌<◌, ap, ◌∙◌, inl, inr, arith}
use Rattle.mesh.specs.Mesh.{Mesh, Sound, point, friend, off_edge, begins, ends, step}
use Rattle.refinement.proofs.Numbers.{sides}
use Rattle.std.proofs.lemmas.Bool.Decides.{nat_tests}

-- an even corner is the end of its off-edge, and an odd one the beginning
pub off_edge_begins : (o : ℕ) → off_edge (begins o) ≡ o
unfolding off_edge begins
off_edge_begins o = grind (arith, nat_tests)

pub off_edge_ends : (o : ℕ) → off_edge (ends o) ≡ o
unfolding off_edge ends
off_edge_ends o = grind (arith, nat_tests)

pub begins_off_edge : (c : ℕ) → c % 2 ≡ 1 → begins (off_edge c) ≡ c
unfolding off_edge begins
begins_off_edge c h = grind (arith, nat_tests)

pub ends_off_edge : (c : ℕ) → c % 2 ≡ 0 → ends (off_edge c) ≡ c
unfolding off_edge ends
ends_off_edge c h = grind (arith, nat_tests)

pub off_edge_below : (c n : ℕ) → c < 4 * n → off_edge c < 2 * n
unfolding off_edge
off_edge_below c n h = grind (arith, nat_tests)

pub step_even : (m : Mesh) (c : ℕ) → c % 2 ≡ 0 → step m c ≡ 2 * friend m (off_edge c)
unfolding step
step_even m c h = omega arith

pub step_odd : (m : Mesh) (c : ℕ) → c % 2 ≡ 1 → step m c ≡ 2 * friend m (off_edge c) + 1
unfolding step
step_odd m c h = omega arith

pub step_side : (m : Mesh) (c : ℕ) → step m c % 2 ≡ c % 2
unfolding step
step_side m c = omega arith

pub step_below : (m : Mesh) → Sound m → (c : ℕ) → c < 4 * m.quads → step m c < 4 * m.quads
unfolding step
step_below m w c h = let f = w.friends_are_edges (off_edge c) (off_edge_below c m.quads h) in omega arith

pub step_point : (m : Mesh) → Sound m → (c : ℕ) → c < 4 * m.quads → point m (step m c) ≡ point m c
step_point m w c h =
    let b = w.friends_run_back (off_edge c) (off_edge_below c m.quads h) in
    elim (sides c) [
      | inl e ↦ ap (point m) (step_even m c e) ∙ b.from_end ∙ ap (point m) (ends_off_edge c e)
      | inr e ↦ ap (point m) (step_odd m c e) ∙ b.to_beginning ∙ ap (point m) (begins_off_edge c e)
    ]
