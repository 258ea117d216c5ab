-- Rows that all make values: which, and how many.
use Rattle.std.proofs.Common.{◌≡◌, ℕ, zero, suc, ◌*◌, ◌<◌, ◌≤◌, Bool, true, false, List, [], ◌∷◌, ◌++◌, ◌⊎◌, map, length, get_or, is_ok, is_err, Ok, Err, Result, Some, None, position, sym, refl, ap, ◌∙◌, inl, inr, arith}
use Rattle.std.specs.List.{position_or_len}
use Rattle.std.proofs.lemmas.List.{get_or-map}
use Rattle.std.proofs.lemmas.List.Quantifiers.{position-Some}
use Rattle.std.proofs.lemmas.List.Sums.{fails_before_first}
use Rattle.std.proofs.lemmas.Bool.{and_parts, cases_lt, cond-true, eqb-true, leb-true, lt-ltb}
use Rattle.mesh.specs.Causes.{once}
use Rattle.mesh.specs.Mesh.{most_quads}
use Rattle.mesh.specs.Refusals.{Verdict, fine, declined}
use Rattle.refinement.proofs.Causes.{each_fault, each_on}
use Rattle.tables.proofs.Passes.{each_passed}
use Rattle.carry.specs.Rows.{first_of, made, refusal, rows_refusal, the_value}

module _ {V : Type 0} where
  head : (x : Result V ℕ) (ys : List V) (e : V) → is_ok x ≡ true → x ≡ Ok (get_or (the_value x ++ ys) 0 e)
  head (Ok v) ys e h = refl
  head (Err c) ys e h = absurd (let n : ◌≡◌ {A = ℕ} 0 1 = cc in omega arith)

  tail : (x : Result V ℕ) (ys : List V) (i : ℕ) (e : V) → is_ok x ≡ true → get_or ys i e ≡ get_or (the_value x ++ ys) (suc i) e
  tail (Ok v) ys i e h = refl
  tail (Err c) ys i e h = absurd (let n : ◌≡◌ {A = ℕ} 0 1 = cc in omega arith)

  one_more : (x : Result V ℕ) (ys : List V) → is_ok x ≡ true → length (the_value x ++ ys) ≡ suc (length ys)
  one_more (Ok v) ys h = refl
  one_more (Err c) ys h = absurd (let n : ◌≡◌ {A = ℕ} 0 1 = cc in omega arith)

  module _ {R : Type 0} (verdict : R → Result V ℕ) where
    abbrev pub AllMake : List R → Type 0
    AllMake rows = (k : ℕ) → k < length rows → get_or (map (λ r. is_ok (verdict r)) rows) k true ≡ true

    rest : (r : R) (rows : List R) → AllMake (r ∷ rows) → AllMake rows
    rest r rows h k l = h (suc k) (omega arith)

    at_of : (rows : List R) → AllMake rows → (i : ℕ) → i < length rows → (d : R) (e : V) → verdict (get_or rows i d) ≡ Ok (get_or (made verdict rows) i e)
    unfolding made
    at_of [] h i l d e = absurd (omega arith)
    at_of (r ∷ rows) h zero l d e = head (verdict r) (made verdict rows) e (h 0 (omega arith))
    at_of (r ∷ rows) h (suc i) l d e = at_of rows (rest r rows h) i (omega arith) d e ∙ ap Ok (tail (verdict r) (made verdict rows) i e (h 0 (omega arith)))

    length_of : (rows : List R) → AllMake rows → length (made verdict rows) ≡ length rows
    unfolding made
    length_of [] h = refl
    length_of (r ∷ rows) h = one_more (verdict r) (made verdict rows) (h 0 (omega arith)) ∙ ap suc (length_of rows (rest r rows h))

    module _ (rows : List R) (all : rows_refusal verdict rows ≡ fine) where
      pub all_make : AllMake rows
      unfolding rows_refusal
      all_make = each_passed 20 _ _ (sym all)

      pub makes_at : (i : ℕ) → i < length rows → (d : R) → is_ok (verdict (get_or rows i d)) ≡ true
      makes_at i l d = sym (get_or-map (λ r. is_ok (verdict r)) rows i d true l) ∙ all_make i l

      pub made_at : (i : ℕ) → i < length rows → (d : R) (e : V) → verdict (get_or rows i d) ≡ Ok (get_or (made verdict rows) i e)
      made_at = at_of rows all_make

      pub length_made : length (made verdict rows) ≡ length rows
      length_made = length_of rows all_make

-- the first row that makes no value, if there is one
module _ {V R : Type 0} (verdict : R → Result V ℕ) where
  ok_from : (x : Result V ℕ) → is_err x ≡ false → is_ok x ≡ true
  ok_from (Ok v) e = refl
  ok_from (Err c) e = absurd (let n : ◌≡◌ {A = ℕ} 0 1 = cc in omega arith)

  not_ok_from : (x : Result V ℕ) → is_err x ≡ true → is_ok x ≡ false
  not_ok_from (Ok v) e = absurd (let n : ◌≡◌ {A = ℕ} 0 1 = cc in omega arith)
  not_ok_from (Err c) e = refl

  right_before : (rows : List R) (d : R) (k : ℕ) → k < length rows → k < position_or_len (λ r. is_err (verdict r)) rows → get_or (map (λ r. is_ok (verdict r)) rows) k true ≡ true
  right_before rows d k l h = get_or-map (λ r. is_ok (verdict r)) rows k d true l ∙ ok_from _ (fails_before_first (λ r. is_err (verdict r)) rows k d h)

  pub none_wrong : (rows : List R) → position (λ r. is_err (verdict r)) rows ≡ None → rows_refusal verdict rows ≡ fine
  unfolding rows_refusal
  none_wrong [] e = each_on 20 _ 0 fine (λ i l. absurd (omega arith))
  none_wrong (r ∷ rs) e = each_on 20 _ _ fine (λ i l. right_before (r ∷ rs) r i l (before (cases_lt (position_or_len (λ r. is_err (verdict r)) (r ∷ rs)) (length (r ∷ rs))) i l))
    where
      before : (position_or_len (λ r. is_err (verdict r)) (r ∷ rs) < length (r ∷ rs)) ⊎ (length (r ∷ rs) ≤ position_or_len (λ r. is_err (verdict r)) (r ∷ rs)) → (i : ℕ) → i < length (r ∷ rs) → i < position_or_len (λ r. is_err (verdict r)) (r ∷ rs)
      before (inl l) i h = absurd (let s = sym (cond-true _ _ _ (lt-ltb _ _ l)) ∙ e in let n : ◌≡◌ {A = ℕ} 0 1 = cc in omega arith)
      before (inr g) i h = omega arith

  pub first_wrong : (rows : List R) (i : ℕ) → position (λ r. is_err (verdict r)) rows ≡ Some i → rows_refusal verdict rows ≡ declined 20 i
  unfolding rows_refusal
  first_wrong [] i e = absurd (let n : ◌≡◌ {A = ℕ} 0 1 = cc in omega arith)
  first_wrong (r ∷ rs) i e =
      let p = position-Some (λ r. is_err (verdict r)) (r ∷ rs) i r e in
      each_fault 20 _ _ fine i p.0 (get_or-map (λ r. is_ok (verdict r)) (r ∷ rs) i r true p.0 ∙ not_ok_from _ p.1)
      (λ k l. get_or-map (λ r. is_ok (verdict r)) (r ∷ rs) k r true (omega arith) ∙ ok_from _ (p.2 k l))

-- what a call that is not refused may go by
once_both : (k : ℕ) (ok : Bool) (next : Verdict) → fine ≡ once k ok next → (ok ≡ true) × (fine ≡ next)
unfolding once
once_both k true next e = (refl, e)
once_both k false next e = absurd (let z : ◌≡◌ {A = ℕ} 0 1 = cc in omega arith)

pub record Accepted {V R : Type 0} (verdict : R → Result V ℕ) (quads standing new : ℕ) (rows : List R) (room : ℕ) : Type 0 where
  pub few : 4 * quads ≤ most_quads
  pub count : length rows ≡ standing
  pub enough : room ≡ new
  pub all : rows_refusal verdict rows ≡ fine

pub accepted : {V R : Type 0} (verdict : R → Result V ℕ) (quads standing new : ℕ) (rows : List R) (room : ℕ) → fine ≡ refusal verdict quads standing new rows room → Accepted verdict quads standing new rows room
unfolding refusal
accepted verdict quads standing new rows room e =
    let a = once_both 13 _ _ e in
    let b = once_both 19 _ _ a.1 in
    let l = and_parts _ _ b.0 in
    record { few = leb-true _ _ a.0; count = eqb-true _ _ l.0; enough = eqb-true _ _ l.1; all = sym b.1 }

-- the first of two refusals
pub first_fault : (v later : Verdict) (k p : ℕ) → declined k p ≡ v → declined k p ≡ first_of v later
unfolding first_of
first_fault v later k p e = ap (λ x. first_of x later) e

pub first_fine : (v later : Verdict) → fine ≡ v → later ≡ first_of v later
unfolding first_of
first_fine v later e = ap (λ x. first_of x later) e
