-- Each new edge that is not made inside a quad is a half of exactly one edge.
use Rattle.std.proofs.Common.{◌≡◌, ℕ, ◌+◌, ◌*◌, ◌/◌, ◌%◌, sym, ap, ◌∙◌, inl, inr, arith}
use Rattle.mesh.specs.Mesh.{friend, off_edge, ends}
use Rattle.refinement.proofs.Numbers.{sides}
use Rattle.refinement.proofs.Steps.{off_edge_ends, ends_off_edge, off_edge_below}
use Rattle.refinement.proofs.Corners.{friend_once, friend_met}
use Rattle.refinement.specs.Laws.{HalvesAre}

ends_side : (o : ℕ) → ends o % 2 ≡ 0
unfolding ends
ends_side o = omega arith

third_side : (s g : ℕ) → s ≡ 4 * g + 3 → s / 2 % 2 ≡ 1
third_side s g e = let h : s / 2 ≡ 2 * g + 1 = omega arith in ap (λ x. x % 2) h ∙ omega arith

first_side : (s c : ℕ) → s ≡ 2 * c + 1 → c % 2 ≡ 0 → s / 2 % 2 ≡ 1 → ⊥
first_side s c e f g = let h : s / 2 ≡ c = omega arith in let k = ap (λ x. x % 2) h in omega arith

pub halves_are : HalvesAre
halves_are m w s h odd = elim (sides (s / 2)) [
  | inl e ↦
      let o = off_edge (s / 2) in
      let z = ends_off_edge (s / 2) e in
      record {
        whole = o;
        whole_below = off_edge_below (s / 2) m.quads (omega arith);
        is_half = inl (omega arith);
        only = λ p l k. elim k [
          | inl a ↦ let y : ends p ≡ s / 2 = omega arith in sym (off_edge_ends p) ∙ ap off_edge y
          | inr a ↦ let y = third_side s (friend m p) a in absurd (omega arith)
        ];
      }
  | inr e ↦
      let r = friend_met m w (s / 4) (omega arith) in
      let f = r.2 in
      record {
        whole = r.0;
        whole_below = r.1;
        is_half = inr (omega arith);
        only = λ p l k. elim k [
          | inl a ↦ absurd (first_side s (ends p) a (ends_side p) e)
          | inr a ↦ friend_once m w p r.0 l r.1 (omega arith)
        ];
      }
]
