-- A table that has at each place what a rule says: one test, which computes, gives the rule at every place.
use Rattle.std.proofs.Common.{◌≡◌, ℕ, zero, suc, ◌+◌, ◌<◌, Bool, true, false, ◌&&◌, T, eqb, List, [], ◌∷◌, length, get_or, ap, ◌∙◌, arith, eqb→eq}

-- the entries from place i on are as the rule says
abbrev pub obeys : (ℕ → ℕ) → ℕ → List ℕ → Bool
obeys rule i [] = true
obeys rule i (x ∷ xs) = eqb x (rule i) && obeys rule (suc i) xs

both : (a b : Bool) → T (a && b) → T a × T b
both true b t = (tt, t)
both false b t = absurd t

obeyed_from : (rule : ℕ → ℕ) (xs : List ℕ) (i : ℕ) → T (obeys rule i xs) → (k : ℕ) → k < length xs → get_or xs k 0 ≡ rule (i + k)
obeyed_from rule [] i t k h = absurd (omega arith)
obeyed_from rule (x ∷ xs) i t zero h = let e : i ≡ i + 0 = omega arith in eqb→eq x (rule i) (both (eqb x (rule i)) (obeys rule (suc i) xs) t).0 ∙ ap rule e
obeyed_from rule (x ∷ xs) i t (suc k) h =
    let e : suc i + k ≡ i + suc k = omega arith in
    obeyed_from rule xs (suc i) (both (eqb x (rule i)) (obeys rule (suc i) xs) t).1 k (omega arith) ∙ ap rule e

pub obeyed : (rule : ℕ → ℕ) (xs : List ℕ) → T (obeys rule 0 xs) → (k : ℕ) → k < length xs → get_or xs k 0 ≡ rule k
obeyed rule xs t k h = let e : 0 + k ≡ k = omega arith in obeyed_from rule xs 0 t k h ∙ ap rule e
