-- One call keeps ranges and seams.
use Rattle.std.proofs.Common.{◌≡◌, ℕ, ◌+◌, ◌*◌, ◌<◌, ◌≤◌, List, [], ◌∷◌, ◌++◌, map, IfOk, Ok, Err, Result, sym, refl, ap, ◌∙◌, subst, MatchResult}
use Rattle.std.specs.List.{AllByRecursion}
use Rattle.std.proofs.ByRecursion.{All-weaker}
use Rattle.mesh.specs.Mesh.{Mesh, Lawful}
use Rattle.mesh.specs.Refusals.{told}
use Rattle.mesh.specs.declared.fault.Fault.{Fault}
use Rattle.refinement.specs.Tasks.{halves, refine}
use Rattle.kinds.specs.Parts.{Each, most_weight, total}
use Rattle.carried.specs.Blends.{values}
use Rattle.carried.specs.Corners.{Alike, corners}
use Rattle.carried.proofs.Ranges.{values_lie}
use Rattle.carried.proofs.Seams.{equals, halves_alike, inside_alike}
use Rattle.carry.specs.OneLevel.{InEveryRange, SeamsMet}
use Rattle.carry.specs.Rows.{made, refusal, the_value}
use Rattle.carry.proofs.Made.{accepted, length_made}

module _ {V R : Type 0} (verdict : R → Result V ℕ) (row : V → R) (again : (v : V) → verdict (row v) ≡ Ok v) where
  -- rows of values make these values again
  made_again : (ys : List V) → made verdict (map row ys) ≡ ys
  unfolding made
  made_again [] = refl
  made_again (y ∷ ys) = ap (λ x. the_value x ++ made verdict (map row ys)) (again y) ∙ ap (λ zs. y ∷ zs) (made_again ys)

  module _ (m : Mesh) (w : Lawful m) (rows out before : List R) (room : ℕ) where
    -- values
    module _ {A B : Type 0} (lies : B → V → Type 0) (blended : List (V × ℕ) → V)
        (keeps : (b : B) (ps : List (V × ℕ)) → 0 < total ps → total ps ≤ most_weight → Each (lies b) ps → lies b (blended ps)) where
      pub range_kept : (r : Result A Fault) → told r ≡ refusal verdict m.quads m.points (m.points + 3 * m.quads) rows room →
          MatchResult r (λ _. out ≡ map row (values blended m (made verdict rows))) (λ _. out ≡ before) → IfOk r (λ _. InEveryRange lies verdict rows out)
      range_kept (Err f) t e = tt
      range_kept (Ok x) t e =
          let a = accepted verdict m.quads m.points (m.points + 3 * m.quads) rows room t in
          let count = length_made verdict rows a.all ∙ a.count in
          λ b h. subst (AllByRecursion (lies b)) (sym (ap (made verdict) e ∙ made_again (values blended m (made verdict rows)))) (values_lie lies blended keeps m w (made verdict rows) count b h)

    -- corner values
    module _ {A : Type 0} (middle : V → V → V) (even : (a b : V) → middle a b ≡ middle b a) where
      pub seams_kept : (r : Result A Fault) → told r ≡ refusal verdict m.quads (4 * m.quads) (16 * m.quads) rows room →
          MatchResult r (λ _. out ≡ map row (corners middle (made verdict rows))) (λ _. out ≡ before) → IfOk r (λ _. SeamsMet verdict m rows out)
      seams_kept (Err f) t e = tt
      seams_kept (Ok x) t e =
          let a = accepted verdict m.quads (4 * m.quads) (16 * m.quads) rows room t in
          let xs = made verdict rows in
          let count = length_made verdict rows a.all ∙ a.count in
          let laws = equals middle even in
          let back : corners middle xs ≡ made verdict out = sym (ap (made verdict) e ∙ made_again (corners middle xs)) in
          record {
            halves_meet = λ o h k. subst (λ ys. AllByRecursion (Alike ◌≡◌ (refine m) ys) (halves m (o ∷ []))) back (All-weaker _ _ (λ p g. g.1) _ (halves_alike ◌≡◌ middle laws m w xs count (o ∷ []) ((h, k), tt)));
            insides_meet = λ c h. subst (λ ys. Alike ◌≡◌ (refine m) ys (2 * c)) back (inside_alike ◌≡◌ middle laws m w xs count c h);
          }
