-- Fractions with a sign that are the same number, and what rounding makes of them.
use Rattle.std.proofs.Common.{◌≡◌, ℕ, ◌+◌, ◌-◌, ◌*◌, ◌<◌, ◌≤◌, Bool, true, false, cond, ◌&&◌, ltb, ◌⊎◌, sym, refl, ap, ◌∙◌, ap₂, inl, inr, mul-le-mul_right, mul_comm, add-mul, mul_right_comm, le_of_mul-le-mul_right, arith}
use mathlib.Core.Bool.{beq}
use native.Mathlib.Nat.{eq_of_mul-eq-mul_right, mul-sub}
use lib.Ieee.{level, round, sum, binary32}
use lib.Ieee.Scale.{round_same}
use Rattle.std.proofs.lemmas.Bool.{and_from, and_parts, cases_lt, eq-eqb, eqb-true, le-ltb, lt-ltb, or_cases, or_left, or_right}

-- a / c with the sign s and b / d with the sign t are the same number; a zero may have either sign
pub record Same (s : Bool) (a c : ℕ) (t : Bool) (b d : ℕ) : Type 0 where
  pub sizes : a * d ≡ b * c
  pub signs : (s ≡ t) ⊎ (a ≡ 0)

none_of : (a k : ℕ) → 0 < k → a * k ≡ 0 → a ≡ 0
none_of a k h e = eq_of_mul-eq-mul_right k h a 0 (omega arith)

pub none_too : (a c b d : ℕ) → 0 < c → a * d ≡ b * c → a ≡ 0 → b ≡ 0
none_too a c b d h e z = none_of b c h (sym e ∙ ap (λ n. n * d) z ∙ omega arith)

module _ (s : Bool) (a c : ℕ) (t : Bool) (b d : ℕ) where
  pub same_back : 0 < c → Same s a c t b d → Same t b d s a c
  same_back h e = record {
    sizes = sym e.sizes;
    signs = elim e.signs [ inl p ↦ inl (sym p) | inr z ↦ inr (none_too a c b d h e.sizes z) ];
  }

  pub same_through : (u : Bool) (r q : ℕ) → 0 < c → 0 < d → Same s a c t b d → Same t b d u r q → Same s a c u r q
  same_through u r q hc hd e f = record {
    sizes = eq_of_mul-eq-mul_right d hd (a * q) (r * c)
        (mul_right_comm a q d ∙ ap (λ n. n * q) e.sizes ∙ mul_right_comm b c q ∙ ap (λ n. n * c) f.sizes ∙ mul_right_comm r d c);
    signs = elim e.signs [
      | inr z ↦ inr z
      | inl p ↦ elim f.signs [
        | inl q' ↦ inl (p ∙ q')
        | inr z ↦ inr (none_too b d a c hd (sym e.sizes) z)
      ]
    ];
  }

  -- the test by which floats are compared
  alike_bits : beq s t ≡ true → s ≡ t
  alike_bits = go s t
    where
      go : (s t : Bool) → beq s t ≡ true → s ≡ t
      go true true e = refl
      go false false e = refl
      go true false e = sym e
      go false true e = e

  pub level_same : 0 < d → level s (a * d) t (b * c) ≡ true → Same s a c t b d
  level_same h e =
      let p = and_parts _ _ e in
      record {
        sizes = eqb-true _ _ p.0;
        signs = elim (or_cases _ _ p.1) [ inl q ↦ inl (alike_bits q) | inr q ↦ inr (none_of a d h (eqb-true _ _ q)) ];
      }

  pub same_level : Same s a c t b d → level s (a * d) t (b * c) ≡ true
  same_level e = and_from _ _ (eq-eqb _ _ e.sizes) (elim e.signs [
    | inl p ↦ or_left _ _ (ap (beq s) (sym p) ∙ itself s)
    | inr z ↦ or_right _ _ (eq-eqb _ _ (ap (λ n. n * d) z ∙ omega arith))
  ])
    where
      itself : (s : Bool) → beq s s ≡ true
      itself true = refl
      itself false = refl

-- ---- equal fractions have equal sums
module _ (c c' : ℕ) (pos : 0 < c) (pos' : 0 < c') where
  le_scaled : (x y x' y' : ℕ) → x * c' ≡ x' * c → y * c' ≡ y' * c → x ≤ y → x' ≤ y'
  le_scaled x y x' y' e f h = let k : x * c' ≤ y * c' = mul-le-mul_right c' h in let g : x' * c ≤ y' * c = omega arith in le_of_mul-le-mul_right g pos

  minus_scaled : (x y x' y' : ℕ) → x * c' ≡ x' * c → y * c' ≡ y' * c → (x - y) * c' ≡ (x' - y') * c
  minus_scaled x y x' y' e f =
      let g = mul-sub c' x y in
      let h = mul-sub c x' y' in
      mul_comm (x - y) c' ∙ g ∙ ap₂ ◌-◌ (mul_comm c' x ∙ e ∙ mul_comm x' c) (mul_comm c' y ∙ f ∙ mul_comm y' c) ∙ sym h ∙ mul_comm c (x' - y')

  plus_scaled : (x y x' y' : ℕ) → x * c' ≡ x' * c → y * c' ≡ y' * c → (x + y) * c' ≡ (x' + y') * c
  plus_scaled x y x' y' e f = add-mul x y c' ∙ ap₂ ◌+◌ e f ∙ sym (add-mul x' y' c)

module _ (c c' : ℕ) (pos : 0 < c) (pos' : 0 < c') (a b a' b' : ℕ) (e : a * c' ≡ a' * c) (f : b * c' ≡ b' * c) where
  ltb_scaled : ltb a b ≡ ltb a' b'
  ltb_scaled = elim (cases_lt a b) [
    | inl l ↦ lt-ltb a b l ∙ sym (elim (cases_lt a' b') [
      | inl k ↦ lt-ltb a' b' k
      | inr k ↦ let z = le_scaled c' c pos' pos b' a' b a (sym f) (sym e) k in absurd (omega arith)
    ])
    | inr l ↦ le-ltb a b l ∙ sym (le-ltb a' b' (le_scaled c c' pos pos' b a b' a' f e l))
  ]

pub sum_same : (s t : Bool) (a b c a' b' c' : ℕ) → 0 < c → 0 < c' → a * c' ≡ a' * c → b * c' ≡ b' * c → sum binary32 s a t b c ≡ sum binary32 s a' t b' c'
unfolding sum
sum_same s t a b c a' b' c' h h' e f =
    let together = round_same binary32 s (a + b) c (a' + b') c' h h' (plus_scaled c c' h h' a b a' b' e f) in
    let less = round_same binary32 t (b - a) c (b' - a') c' h h' (minus_scaled c c' h h' b a b' a' f e) in
    let more = ap (λ g. round binary32 (s && g) (a - b) c) (ltb_scaled c c' h h' b a b' a' f e) ∙ round_same binary32 (s && ltb b' a') (a - b) c (a' - b') c' h h' (minus_scaled c c' h h' a b a' b' e f) in
    λ i. cond (beq s t) (together i) (cond (ltb_scaled c c' h h' a b a' b' e f i) (less i) (more i))
