-- The middle of equal texture numbers is equal, though it is rounded twice and 0 and -0 are equal.
use Rattle.std.proofs.Common.{◌≡◌, ℕ, ◌*◌, ◌<◌, Bool, true, false, ◌&&◌, T, sym, refl, ap, ◌∙◌, subst, subst₂, inl, inr, le_trans, le_of_eq, mul-le-mul_right, mul_assoc, mul_comm, mul-pos, zero-add, arith, lit≤, leb→le}
use native.Mathlib.Nat.{mul-mul-mul_comm, sub-zero}
use lib.Ieee.{Float, nan, inf, fin, binary32, up, down, unlike, round, sum, size, units, odd, add, mul, eq}
use lib.Ieee.Fits.{down_pos}
use lib.Ieee.Scale.{round_same}
use Rattle.std.proofs.lemmas.Bool.{and_from, and_parts, cases_lt, lt-ltb}
use Rattle.attributes.specs.Equal.{EqualIsALikeness}
use Rattle.attributes.specs.Halfway.{half, halfway_of, lawful, within}
use Rattle.attributes.specs.Rounding.{add_exchanged, add_within, half_within, halfway_even, halfway_lawful, round_within}
use Rattle.attributes.proofs.Fractions.{Same, level_same, none_too, same_back, same_level, same_through, sum_same}

-- ---- equality of numbers that are finite
abbrev pub Finite : Float → Type 0
Finite nan = ⊥
Finite (inf s) = ⊥
Finite (fin s m e) = Unit {0}

finite : (n : ℕ) (x : Float) → T (within n x) → Finite x
finite n nan h = h
finite n (inf s) h = h
finite n (fin s m e) h = tt

same_fins : (s : Bool) (m : ℕ) (e : _) (t : Bool) (n : ℕ) (d : _) → eq (fin s m e) (fin t n d) ≡ true → Same s (m * up e) (down e) t (n * up d) (down d)
unfolding eq
same_fins s m e t n d h = level_same s (m * up e) (down e) t (n * up d) (down d) (down_pos d) h

equal_fins : (s : Bool) (m : ℕ) (e : _) (t : Bool) (n : ℕ) (d : _) → Same s (m * up e) (down e) t (n * up d) (down d) → eq (fin s m e) (fin t n d) ≡ true
unfolding eq
equal_fins s m e t n d h = same_level s (m * up e) (down e) t (n * up d) (down d) h

pub eq_itself : (x : Float) → Finite x → eq x x ≡ true
eq_itself nan h = absurd h
eq_itself (inf s) h = absurd h
eq_itself (fin s m e) h = equal_fins s m e s m e (record { sizes = refl; signs = inl refl })

pub eq_back : (x y : Float) → Finite x → Finite y → eq x y ≡ true → eq y x ≡ true
eq_back nan y p q h = absurd p
eq_back (inf s) y p q h = absurd p
eq_back (fin s m e) nan p q h = absurd q
eq_back (fin s m e) (inf t) p q h = absurd q
eq_back (fin s m e) (fin t n d) p q h =
    equal_fins t n d s m e (same_back s (m * up e) (down e) t (n * up d) (down d) (down_pos e) (same_fins s m e t n d h))

pub eq_through : (x y z : Float) → Finite x → Finite y → Finite z → eq x y ≡ true → eq y z ≡ true → eq x z ≡ true
eq_through nan y z p q r h k = absurd p
eq_through (inf s) y z p q r h k = absurd p
eq_through (fin s m e) nan z p q r h k = absurd q
eq_through (fin s m e) (inf t) z p q r h k = absurd q
eq_through (fin s m e) (fin t n d) nan p q r h k = absurd r
eq_through (fin s m e) (fin t n d) (inf u) p q r h k = absurd r
eq_through (fin s m e) (fin t n d) (fin u l c) p q r h k =
    equal_fins s m e u l c
    (same_through s (m * up e) (down e) t (n * up d) (down d) u (l * up c) (down c) (down_pos e) (down_pos d) (same_fins s m e t n d h) (same_fins t n d u l c k))

-- ---- equal fractions round to equal numbers
zeros : (s t : Bool) → eq (round binary32 s 0 1) (round binary32 t 0 1) ≡ true
unfolding eq round size units odd
zeros true true = refl
zeros true false = refl
zeros false true = refl
zeros false false = refl

rounded_zeros : (s t : Bool) (c d : ℕ) → 0 < c → 0 < d → eq (round binary32 s 0 c) (round binary32 t 0 d) ≡ true
rounded_zeros s t c d h k =
    subst₂ (λ x y. eq x y ≡ true)
    (round_same binary32 s 0 1 0 c (omega arith) h (omega arith)) (round_same binary32 t 0 1 0 d (omega arith) k (omega arith)) (zeros s t)

rounds_equal : (s : Bool) (a c : ℕ) (t : Bool) (b d : ℕ) → 0 < c → 0 < d → Finite (round binary32 s a c) → Same s a c t b d → eq (round binary32 s a c) (round binary32 t b d) ≡ true
rounds_equal s a c t b d h k fine e = elim e.signs [
  | inl p ↦ subst (λ y. eq (round binary32 s a c) y ≡ true) (round_same binary32 s a c b d h k e.sizes ∙ ap (λ u. round binary32 u b d) p) (eq_itself _ fine)
  | inr z ↦
      let y = none_too a c b d h e.sizes z in
      subst₂ (λ m n. eq (round binary32 s m c) (round binary32 t n d) ≡ true) (sym z) (sym y) (rounded_zeros s t c d h k)
]

-- ---- a zero of either sign adds nothing
zero_adds : (s t : Bool) (b c : ℕ) → 0 < b → sum binary32 s 0 t b c ≡ round binary32 t b c
unfolding sum
zero_adds true true b c h = ap (λ n. round binary32 true n c) (zero-add b)
zero_adds false false b c h = ap (λ n. round binary32 false n c) (zero-add b)
zero_adds true false b c h = rw (lt-ltb 0 b h) (ap (λ n. round binary32 false n c) (sub-zero b))
zero_adds false true b c h = rw (lt-ltb 0 b h) (ap (λ n. round binary32 true n c) (sub-zero b))

zeros_add : (s t : Bool) (c : ℕ) → (u : Bool) × (sum binary32 s 0 t 0 c ≡ round binary32 u 0 c)
unfolding sum
zeros_add true true c = (true, refl)
zeros_add false false c = (false, refl)
zeros_add true false c = (false, refl)
zeros_add false true c = (false, refl)

zero_turned : (s u t : Bool) (b c : ℕ) → 0 < c → Finite (round binary32 t b c) → eq (sum binary32 s 0 t b c) (sum binary32 u 0 t b c) ≡ true
zero_turned s u t b c h fine = elim (cases_lt 0 b) [
  | inl l ↦ subst₂ (λ x y. eq x y ≡ true) (sym (zero_adds s t b c l)) (sym (zero_adds u t b c l)) (eq_itself _ fine)
  | inr l ↦
      let z : 0 ≡ b = omega arith in
      let p = zeros_add s t c in
      let q = zeros_add u t c in
      subst (λ n. eq (sum binary32 s 0 t n c) (sum binary32 u 0 t n c) ≡ true) z
      (subst₂ (λ x y. eq x y ≡ true) (sym p.1) (sym q.1) (rounded_zeros p.0 q.0 c c h h))
]

-- ---- sums and halves of equal numbers
added_finite : (x y : Float) → T (lawful x) → T (lawful y) → Finite (add binary32 x y)
added_finite x y p q = finite 131072 (add binary32 x y) (add_within x y p q)

-- a texture number over any number of parts
scaled_finite : (u : Bool) (l : ℕ) (c : _) (k : ℕ) → 0 < k → T (lawful (fin u l c)) → Finite (round binary32 u (l * up c * k) (k * down c))
scaled_finite u l c k h r =
    finite 65536 _
    (round_within binary32 u (l * up c * k) (k * down c) 16 (mul-pos h (down_pos c)) (lit≤ tt)
    (le_trans (mul-le-mul_right k (leb→le (l * up c) (65536 * down c) r)) (le_of_eq (mul_assoc 65536 (down c) k ∙ ap (λ n. 65536 * n) (mul_comm (down c) k)))))

add_left : (x z y : Float) → T (lawful x) → T (lawful z) → T (lawful y) → eq x z ≡ true → eq (add binary32 x y) (add binary32 z y) ≡ true
unfolding add
add_left nan z y p q r h = absurd p
add_left (inf s) z y p q r h = absurd p
add_left (fin s m e) nan y p q r h = absurd q
add_left (fin s m e) (inf t) y p q r h = absurd q
add_left (fin s m e) (fin t n d) nan p q r h = absurd r
add_left (fin s m e) (fin t n d) (inf u) p q r h = absurd r
add_left (fin s m e) (fin t n d) (fin u l c) p q r h =
    let k = same_fins s m e t n d h in
    let P : ℕ = m * up e in
    let Q : ℕ = n * up d in
    let L : ℕ = l * up c in
    let hx : 0 < down e * down c = mul-pos (down_pos e) (down_pos c) in
    let hz : 0 < down d * down c = mul-pos (down_pos d) (down_pos c) in
    let first : P * down c * (down d * down c) ≡ Q * down c * (down e * down c) =
    mul-mul-mul_comm P (down c) (down d) (down c) ∙ ap (λ n. n * (down c * down c)) k.sizes ∙ mul-mul-mul_comm Q (down e) (down c) (down c) in
    let second : L * down e * (down d * down c) ≡ L * down d * (down e * down c) = mul-mul-mul_comm L (down e) (down d) (down c) in
    elim k.signs [
      | inl g ↦
          subst (λ w. eq (sum binary32 s (P * down c) u (L * down e) (down e * down c)) w ≡ true)
          (sum_same s u (P * down c) (L * down e) (down e * down c) (Q * down c) (L * down d) (down d * down c) hx hz first second
          ∙ ap (λ v. sum binary32 v (Q * down c) u (L * down d) (down d * down c)) g)
          (eq_itself _ (added_finite (fin s m e) (fin u l c) p r))
      | inr g ↦
          let none : P * down c ≡ 0 = ap (λ n. n * down c) g ∙ omega arith in
          let none' : Q * down c ≡ 0 = ap (λ n. n * down c) (none_too P (down e) Q (down d) (down_pos e) k.sizes g) ∙ omega arith in
          subst₂ (λ a w. eq (sum binary32 s a u (L * down e) (down e * down c)) w ≡ true) (sym none)
          (sum_same t u 0 (L * down e) (down e * down c) 0 (L * down d) (down d * down c) hx hz (omega arith) second
          ∙ ap (λ a. sum binary32 t a u (L * down d) (down d * down c)) (sym none'))
          (zero_turned s t u (L * down e) (down e * down c) hx (scaled_finite u l c (down e) (down_pos e) r))
    ]

add_equal : (x z y w : Float) → T (lawful x) → T (lawful z) → T (lawful y) → T (lawful w) → eq x z ≡ true → eq y w ≡ true → eq (add binary32 x y) (add binary32 z w) ≡ true
add_equal x z y w p q r o h k =
    eq_through (add binary32 x y) (add binary32 z y) (add binary32 z w) (added_finite x y p r) (added_finite z y q r) (added_finite z w q o)
    (add_left x z y p q r h)
    (subst₂ (λ a b. eq a b ≡ true) (add_exchanged binary32 y z) (add_exchanged binary32 w z) (add_left y w z r o q k))

half_equal : (x z : Float) → T (within 131072 x) → T (within 131072 z) → eq x z ≡ true → eq (mul binary32 x half) (mul binary32 z half) ≡ true
unfolding mul
half_equal nan z p q h = absurd p
half_equal (inf s) z p q h = absurd p
half_equal (fin s m e) nan p q h = absurd q
half_equal (fin s m e) (inf t) p q h = absurd q
half_equal (fin s m e) (fin t n d) p q h =
    let k = same_fins s m e t n d h in
    let i = down_pos e in
    let j = down_pos d in
    let z = k.sizes in
    rounds_equal (unlike s false) (m * up e * 1) (down e * 2) (unlike t false) (n * up d * 1) (down d * 2) (omega arith) (omega arith)
    (finite 65536 _ (half_within (fin s m e) p))
    (record { sizes = omega arith; signs = elim k.signs [ inl g ↦ inl (ap (λ b. unlike b false) g) | inr g ↦ inr (omega arith) ] })

halfway_equal : (x z y w : Float) → T (lawful x) → T (lawful z) → T (lawful y) → T (lawful w) → eq x z ≡ true → eq y w ≡ true → eq (halfway_of x y) (halfway_of z w) ≡ true
unfolding halfway_of
halfway_equal x z y w p q r o h k = half_equal _ _ (add_within x y p r) (add_within z w q o) (add_equal x z y w p q r o h k)

halfway_turned : (x y : Float) → T (lawful x) → T (lawful y) → eq (halfway_of x y) (halfway_of y x) ≡ true
halfway_turned x y p q = subst (λ z. eq (halfway_of x y) z ≡ true) (halfway_even x y) (eq_itself _ (finite 65536 _ (halfway_lawful x y p q)))

-- ---- pairs
both : (p q r s : Bool) → (p ≡ true → r ≡ true) → (q ≡ true → s ≡ true) → (p && q) ≡ true → (r && s) ≡ true
both p q r s f g h = let k = and_parts p q h in and_from r s (f k.0) (g k.1)

pub equal_is_a_likeness : EqualIsALikeness
equal_is_a_likeness = record {
  itself = λ a. and_from _ _ (eq_itself a.u (number a.u a.uok)) (eq_itself a.v (number a.v a.vok));
  back = λ a b. both _ _ _ _
      (eq_back a.u b.u (number a.u a.uok) (number b.u b.uok))
      (eq_back a.v b.v (number a.v a.vok) (number b.v b.vok));
  through = λ a b c h k.
      let i = and_parts _ _ h in
      let j = and_parts _ _ k in
      and_from _ _
      (eq_through a.u b.u c.u (number a.u a.uok) (number b.u b.uok) (number c.u c.uok) i.0 j.0)
      (eq_through a.v b.v c.v (number a.v a.vok) (number b.v b.vok) (number c.v c.vok) i.1 j.1);
  middles = λ a b c d h k.
      let i = and_parts _ _ h in
      let j = and_parts _ _ k in
      and_from _ _
      (halfway_equal a.u b.u c.u d.u a.uok b.uok c.uok d.uok i.0 j.0)
      (halfway_equal a.v b.v c.v d.v a.vok b.vok c.vok d.vok i.1 j.1);
  even = λ a b. and_from _ _ (halfway_turned a.u b.u a.uok b.uok) (halfway_turned a.v b.v a.vok b.vok);
}
  where
    number : (x : Float) → T (lawful x) → Finite x
    number = finite 65536
