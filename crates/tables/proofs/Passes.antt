-- The verdict of a test of each place, and what such a test that found nothing tells.
use Rattle.std.proofs.Common.{◌≡◌, ℕ, ◌*◌, ◌<◌, Bool, true, false, not, sym, ◌∙◌, inl, inr, arith}
use Rattle.std.proofs.lemmas.Bool.{cases_Bool, cases_lt, not-true, not-false}
use Rattle.mesh.specs.Causes.{once, each, shape_ok, quads_ok, points_ok, friend_ok, mark_ok, start_ok}
use Rattle.mesh.specs.Count.{least}
use Rattle.mesh.specs.Mesh.{Mesh}
use Rattle.mesh.specs.Refusals.{Verdict, fine, declined}
use Rattle.refinement.proofs.Causes.{once_fault, each_on, each_fault}
use Rattle.refinement.proofs.Tests.{shape_tells, quads_tell, points_tell, friend_tells, mark_tells, start_tells}
use Rattle.refinement.proofs.Totals.{least_fails, least_passes}
use Rattle.tables.specs.Passed.{Sized, Worded, Started}

not_fine : (k p : ℕ) → fine ≡ declined k p → ⊥
not_fine k p e = let z : ◌≡◌ {A = ℕ} 0 1 = cc in omega arith

-- a test of each place passes at each, or fails first at one
data Found (ok : ℕ → Bool) (n : ℕ) : Type 0 where
  none : ((i : ℕ) → i < n → ok i ≡ true) → Found ok n
  first : (p : ℕ) → p < n → ok p ≡ false → ((i : ℕ) → i < p → ok i ≡ true) → Found ok n

found : (ok : ℕ → Bool) (n : ℕ) → Found ok n
found ok n = elim (cases_lt (least (λ i. not (ok i)) n) n) [
  | inl l ↦ first _ l (not-true (ok _) (least_passes (λ i. not (ok i)) n l)) (λ i h. not-false (ok i) (least_fails (λ i. not (ok i)) n i h))
  | inr l ↦ none (λ i h. not-false (ok i) (least_fails (λ i. not (ok i)) n i (omega arith)))
]

-- the verdict of a test that fails first at p, and of one that fails nowhere
pub first_at : (k : ℕ) (ok : ℕ → Bool) (n p : ℕ) → p < n → ok p ≡ false → ((i : ℕ) → i < p → ok i ≡ true) → (rest : Verdict) → declined k p ≡ each k ok n rest
first_at k ok n p l f t rest = sym (each_fault k ok n rest p l f t)

pub nowhere : (k : ℕ) (ok : ℕ → Bool) (n : ℕ) → ((i : ℕ) → i < n → ok i ≡ true) → (rest : Verdict) → rest ≡ each k ok n rest
nowhere k ok n t rest = sym (each_on k ok n rest t)

-- what a test that found nothing tells
pub once_passed : (k : ℕ) (ok : Bool) → fine ≡ once k ok fine → ok ≡ true
once_passed k ok e = elim (cases_Bool ok) [ inl t ↦ t | inr f ↦ absurd (not_fine k 0 (e ∙ once_fault k ok fine f)) ]

pub each_passed : (k : ℕ) (ok : ℕ → Bool) (n : ℕ) → fine ≡ each k ok n fine → (i : ℕ) → i < n → ok i ≡ true
each_passed k ok n e = elim (found ok n) [
  | none t ↦ t
  | first p l f t ↦ absurd (not_fine k p (e ∙ each_fault k ok n fine p l f t))
]

-- what the first tests that passed are good for
pub sized : (m : Mesh) → fine ≡ once 1 (shape_ok m) fine → fine ≡ once 2 (quads_ok m) fine → fine ≡ once 3 (points_ok m) fine → Sized m
sized m e1 e2 e3 = record {
  counted = (shape_tells m).holds (once_passed 1 _ e1);
  quads_few = ((quads_tell m).holds (once_passed 2 _ e2)).1;
  points_few = ((points_tell m).holds (once_passed 3 _ e3)).1;
}

pub worded : (m : Mesh) → Sized m → fine ≡ each 5 (friend_ok m) (2 * m.quads) fine → fine ≡ each 6 (mark_ok m) (2 * m.quads) fine → Worded m
worded m s e5 e6 = record {
  sized = s;
  friends_are_edges = λ o l. (friend_tells m o).holds (each_passed 5 (friend_ok m) _ e5 o l);
  marks_are_words = λ o l. (mark_tells m o).holds (each_passed 6 (mark_ok m) _ e6 o l);
}

pub started : (m : Mesh) → Worded m → fine ≡ each 8 (start_ok m) m.points fine → Started m
started m w e8 = record { worded = w; starts_are_corners = λ v l. ((start_tells m v).holds (each_passed 8 (start_ok m) _ e8 v l)).0 }
