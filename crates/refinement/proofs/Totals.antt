-- Sums and least numbers below a bound, and the pigeonhole.
use Rattle.std.proofs.Common.{◌≡◌, ℕ, zero, suc, ◌+◌, ◌*◌, ◌<◌, ◌≤◌, Bool, true, false, cond, eqb, sym, refl, ap, ◌∙◌, inl, inr, arith}
use Rattle.mesh.specs.Count.{least, total}
use Rattle.std.proofs.lemmas.Bool.{cases_eq, cases_lt, cases_Bool, eq-eqb, ne_eqb, both_ways}

-- totals term by term
pub total_same : (f g : ℕ → ℕ) (n : ℕ) → ((i : ℕ) → i < n → f i ≡ g i) → total f n ≡ total g n
unfolding total
total_same f g zero h = refl
total_same f g (suc n) h = let r = total_same f g n (λ i l. h i (omega arith)) in let s = h n (omega arith) in omega arith

pub total_plus : (f g : ℕ → ℕ) (n : ℕ) → total (λ i. f i + g i) n ≡ total f n + total g n
unfolding total
total_plus f g zero = refl
total_plus f g (suc n) = let r = total_plus f g n in omega arith

pub total_zero : (f : ℕ → ℕ) (n : ℕ) → ((i : ℕ) → i < n → f i ≡ 0) → total f n ≡ 0
unfolding total
total_zero f zero h = refl
total_zero f (suc n) h = let r = total_zero f n (λ i l. h i (omega arith)) in let s = h n (omega arith) in omega arith

pub total_ones : (f : ℕ → ℕ) (n : ℕ) → ((i : ℕ) → i < n → f i ≡ 1) → total f n ≡ n
unfolding total
total_ones f zero h = refl
total_ones f (suc n) h = let r = total_ones f n (λ i l. h i (omega arith)) in let s = h n (omega arith) in omega arith

pub total_le : (f : ℕ → ℕ) (n : ℕ) → ((i : ℕ) → i < n → f i ≤ 1) → total f n ≤ n
unfolding total
total_le f zero h = omega arith
total_le f (suc n) h = let r = total_le f n (λ i l. h i (omega arith)) in let s = h n (omega arith) in omega arith

-- n terms of at most 1 that come to n are each 1
pub total_full : (f : ℕ → ℕ) (n : ℕ) → ((i : ℕ) → i < n → f i ≤ 1) → total f n ≡ n → (i : ℕ) → i < n → f i ≡ 1
unfolding total
total_full f zero h e i l = absurd (omega arith)
total_full f (suc n) h e i l =
    let r = total_le f n (λ i l. h i (omega arith)) in
    let s = h n (omega arith) in
    elim (cases_lt i n) [ inl k ↦ total_full f n (λ i l. h i (omega arith)) (omega arith) i k | inr k ↦ let q : i ≡ n = omega arith in let t : f n ≡ 1 = omega arith in ap f q ∙ t ]

-- a total above 0 has a term above 0
pub total_some : (f : ℕ → ℕ) (n : ℕ) → 0 < total f n → (i : ℕ) × (i < n) × (0 < f i)
unfolding total
total_some f zero h = absurd (omega arith)
total_some f (suc n) h =
    elim (cases_lt 0 (f n)) [
      | inl k ↦ (n, omega arith, k)
      | inr k ↦ let r = total_some f n (omega arith) in (r.0, omega arith, r.2)
    ]

-- terms of at most 1, no two of which are 1
pub total_single : (f : ℕ → ℕ) (n : ℕ) → ((i : ℕ) → i < n → f i ≤ 1) → ((i j : ℕ) → i < j → j < n → 0 < f i → 0 < f j → ⊥) → total f n ≤ 1
unfolding total
total_single f zero h u = omega arith
total_single f (suc n) h u =
    let r = total_single f n (λ i l. h i (omega arith)) (λ i j k l. u i j k (omega arith)) in
    let s = h n (omega arith) in
    elim (cases_lt 0 (f n)) [
      | inl k ↦ elim (cases_lt 0 (total f n)) [
        | inl t ↦ let w = total_some f n t in absurd (u w.0 n w.1 (omega arith) w.2 k)
        | inr t ↦ omega arith
      ]
      | inr k ↦ omega arith
    ]

-- the order of two totals
pub total_swap : (f : ℕ → ℕ → ℕ) (k n : ℕ) → total (λ i. total (f i) n) k ≡ total (λ j. total (λ i. f i j) k) n
unfolding total
total_swap f zero n = sym (total_zero (λ j. 0) n (λ i l. refl))
total_swap f (suc k) n =
    ap (λ x. x + total (f k) n) (total_swap f k n) ∙ sym (total_plus (λ j. total (λ i. f i j) k) (f k) n)

-- 1 where a number is met
abbrev pub hit : ℕ → ℕ → ℕ
hit x c = cond (eqb x c) 1 0

pub hit_same : (x c : ℕ) → x ≡ c → hit x c ≡ 1
hit_same x c e = ap (λ b. cond b 1 0) (eq-eqb x c e)

pub hit_other : (x c : ℕ) → (x ≡ c → ⊥) → hit x c ≡ 0
hit_other x c e = ap (λ b. cond b 1 0) (ne_eqb x c e)

pub hit_met : (x c : ℕ) → 0 < hit x c → x ≡ c
hit_met x c h = elim (cases_eq x c) [ inl e ↦ e | inr e ↦ let z = hit_other x c e in absurd (omega arith) ]

pub hit_le : (x c : ℕ) → hit x c ≤ 1
hit_le x c = elim (cases_eq x c) [ inl e ↦ let z = hit_same x c e in omega arith | inr e ↦ let z = hit_other x c e in omega arith ]

pub total_hits : (x n : ℕ) → x < n → total (hit x) n ≡ 1
unfolding total
total_hits x zero l = absurd (omega arith)
total_hits x (suc n) l = elim (cases_eq x n) [
  | inl e ↦
      let a = total_zero (hit x) n (λ i k. hit_other x i (λ d. omega arith)) in
      let b = hit_same x n e in omega arith
  | inr e ↦
      let a = total_hits x n (omega arith) in
      let b = hit_other x n e in omega arith
]

-- the least number that passes
pub least_le : (p : ℕ → Bool) (n : ℕ) → least p n ≤ n
unfolding least
least_le p zero = omega arith
least_le p (suc n) =
    let r = least_le (λ i. p (suc i)) n in
    elim (p 0) as (λ b. elim b [ true ↦ 0 | false ↦ suc (least (λ i. p (suc i)) n) ] ≤ suc n) [ true ↦ omega arith | false ↦ omega arith ]

pub least_is : (p : ℕ → Bool) (n k : ℕ) → k < n → p k ≡ true → ((i : ℕ) → i < k → p i ≡ false) → least p n ≡ k
unfolding least
least_is p zero k l t f = absurd (omega arith)
least_is p (suc n) zero l t f = rw (t, least)
least_is p (suc n) (suc k) l t f = let z = f 0 (omega arith) in rw (z, least) (ap suc (least_is (λ i. p (suc i)) n k (omega arith) t (λ i h. f (suc i) (omega arith))))

pub least_fails : (p : ℕ → Bool) (n i : ℕ) → i < least p n → p i ≡ false
unfolding least
least_fails p zero i l = absurd (omega arith)
least_fails p (suc n) zero l = elim (cases_Bool (p 0)) [
  | inl t ↦ let z : least p (suc n) ≡ 0 = rw (t, least) in absurd (omega arith)
  | inr t ↦ t
]
least_fails p (suc n) (suc i) l = elim (cases_Bool (p 0)) [
  | inl t ↦ let z : least p (suc n) ≡ 0 = rw (t, least) in absurd (omega arith)
  | inr t ↦
      let z : least p (suc n) ≡ suc (least (λ j. p (suc j)) n) = rw (t, least) in
      least_fails (λ j. p (suc j)) n i (omega arith)
]

pub least_passes : (p : ℕ → Bool) (n : ℕ) → least p n < n → p (least p n) ≡ true
unfolding least
least_passes p zero l = absurd (omega arith)
least_passes p (suc n) l = elim (cases_Bool (p 0)) [
  | inl t ↦ let z : least p (suc n) ≡ 0 = rw (t, least) in ap p z ∙ t
  | inr t ↦
      let z : least p (suc n) ≡ suc (least (λ j. p (suc j)) n) = rw (t, least) in
      ap p z ∙ least_passes (λ j. p (suc j)) n (omega arith)
]

-- totals in parts
pub total_split : (f : ℕ → ℕ) (a b : ℕ) → total f (a + b) ≡ total f a + total (λ i. f (a + i)) b
unfolding total
total_split f a zero = let e : a + 0 ≡ a = omega arith in ap (total f) e ∙ omega arith
total_split f a (suc b) =
    let e : a + suc b ≡ suc (a + b) = omega arith in
    let r = total_split f a b in
    ap (total f) e ∙ omega arith

pub total_fours : (f : ℕ → ℕ) (n : ℕ) → total f (4 * n) ≡ total (λ i. f (4 * i) + f (4 * i + 1) + f (4 * i + 2) + f (4 * i + 3)) n
unfolding total
total_fours f zero = refl
total_fours f (suc n) =
    let e : 4 * suc n ≡ suc (suc (suc (suc (4 * n)))) = omega arith in
    let a : f (suc (4 * n)) ≡ f (4 * n + 1) = ap f (omega arith) in
    let b : f (suc (suc (4 * n))) ≡ f (4 * n + 2) = ap f (omega arith) in
    let c : f (suc (suc (suc (4 * n)))) ≡ f (4 * n + 3) = ap f (omega arith) in
    let r = total_fours f n in
    ap (total f) e ∙ omega arith

pub total_twos : (f : ℕ → ℕ) (n : ℕ) → total f (2 * n) ≡ total (λ i. f (2 * i) + f (2 * i + 1)) n
unfolding total
total_twos f zero = refl
total_twos f (suc n) =
    let e : 2 * suc n ≡ suc (suc (2 * n)) = omega arith in
    let a : f (suc (2 * n)) ≡ f (2 * n + 1) = ap f (omega arith) in
    let r = total_twos f n in
    ap (total f) e ∙ omega arith

pub total_each : (k : ℕ) (f : ℕ → ℕ) (n : ℕ) → ((i : ℕ) → i < n → f i ≡ k) → total f n ≡ k * n
unfolding total
total_each k f zero h = omega arith
total_each k f (suc n) h = let r = total_each k f n (λ i l. h i (omega arith)) in let s = h n (omega arith) in omega arith

pub least_none : (p : ℕ → Bool) (n : ℕ) → ((i : ℕ) → i < n → p i ≡ false) → least p n ≡ n
least_none p n f = elim (cases_lt (least p n) n) [
  | inl l ↦ let z = f (least p n) l in let y = least_passes p n l in absurd (both_ways (p (least p n)) z y)
  | inr l ↦ let y = least_le p n in omega arith
]

-- a term is at most the total, and n terms that come to less have one that is 0
pub total_term : (f : ℕ → ℕ) (n i : ℕ) → i < n → f i ≤ total f n
unfolding total
total_term f zero i l = absurd (omega arith)
total_term f (suc n) i l = elim (cases_eq i n) [
  | inl e ↦ let z = ap f e in omega arith
  | inr e ↦ let z = total_term f n i (omega arith) in omega arith
]

pub total_short : (f : ℕ → ℕ) (n : ℕ) → total f n < n → (i : ℕ) × (i < n) × (f i ≡ 0)
unfolding total
total_short f zero h = absurd (omega arith)
total_short f (suc n) h = elim (cases_lt 0 (f n)) [
  | inl k ↦ let r = total_short f n (omega arith) in (r.0, omega arith, r.2)
  | inr k ↦ (n, omega arith, omega arith)
]
