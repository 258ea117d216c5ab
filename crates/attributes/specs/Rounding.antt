-- Two facts of rounded arithmetic: a sum is the same with its numbers exchanged, and rounding does not carry a value past a power of two.
use Rattle.std.specs.Prelude.{◌≡◌, ℕ, suc, ◌+◌, ◌-◌, ◌*◌, ◌/◌, ◌^◌, ◌<◌, ◌≤◌, Bool, true, false, cond, not, ◌&&◌, T, nat_lt, refl, Float}
use Rattle.std.proofs.Common.{sym, ap, ◌∙◌, subst, le_refl, mul-lt-mul_of_pos_right, add_comm, mul_comm, mul_assoc, mul-one, mul_right_comm, mul-pos, mul-le-mul_right, le_of_mul-le-mul_right, le_trans, le_of_eq, lt_of_le_of_lt, div-lt_iff_lt-mul, div-one, arith, leb→le, le→leb, ltb→lt, nltb→le, lit≤, pow_pos, pow-add}
use Rattle.std.specs.Bool.{beq}
use Rattle.std.proofs.Math.Nat.{mod-one}
use Rattle.std.proofs.Math.Pow.{pow-lt}
use Rattle.std.specs.Float.{nan, inf, fin, Format, binary32}
use Rattle.std.specs.Float.Ieee.{prec, emax, low, up, down, size, units, round, sum, add, mul, unlike}
use Rattle.std.specs.Float.Ieee.Digits.{size-le}
use Rattle.std.specs.Float.Ieee.Fits.{two, down_pos, round_is}
use Rattle.std.specs.Float.Ieee.Exact.{HasValue, units_val}
use Rattle.std.specs.Float.Ieee.Nearest.{closest, closest_mono}
use Rattle.attributes.specs.Halfway.{within, lawful, half, halfway_of}

-- ---- a sum with its numbers exchanged

-- of numbers of unlike signs: the larger one has the sign, and a zero has none
apart : (f : Format) (a b c : ℕ) → sum f true a false b c ≡ sum f false b true a c
unfolding sum
apart f a b c = go (nat_lt a b) (nat_lt b a) (λ p q. meet (ltb→lt a b p) (ltb→lt b a q)) (λ p q. level (nltb→le a b p) (nltb→le b a q))
  where
    meet : a < b → b < a → ⊥
    meet p q = omega arith

    level : b ≤ a → a ≤ b → a - b ≡ b - a
    level p q = omega arith

    go : (p q : Bool) → (T p → T q → ⊥) → (T (not p) → T (not q) → a - b ≡ b - a)
        → cond p (round f false (b - a) c) (round f q (a - b) c) ≡ cond q (round f true (a - b) c) (round f false (b - a) c)
    go true true h k = absurd (h tt tt)
    go true false h k = refl
    go false true h k = refl
    go false false h k = ap (λ (n : ℕ). round f false n c) (k tt tt)

sum_comm : (f : Format) (s : Bool) (a : ℕ) (t : Bool) (b c : ℕ) → sum f s a t b c ≡ sum f t b s a c
unfolding sum
sum_comm f true a true b c = ap (λ (n : ℕ). round f true n c) (add_comm a b)
sum_comm f true a false b c = apart f a b c
sum_comm f false a true b c = sym (apart f b a c)
sum_comm f false a false b c = ap (λ (n : ℕ). round f false n c) (add_comm a b)

inf_comm : (s t : Bool) → cond (beq s t) (inf s) nan ≡ cond (beq t s) (inf t) nan
inf_comm true true = refl
inf_comm true false = refl
inf_comm false true = refl
inf_comm false false = refl

pub add_exchanged : (f : Format) (x y : Float) → add f x y ≡ add f y x
unfolding add
add_exchanged f nan nan = refl
add_exchanged f nan (inf t) = refl
add_exchanged f nan (fin t n d) = refl
add_exchanged f (inf s) nan = refl
add_exchanged f (inf s) (inf t) = inf_comm s t
add_exchanged f (inf s) (fin t n d) = refl
add_exchanged f (fin s m e) nan = refl
add_exchanged f (fin s m e) (inf t) = refl
add_exchanged f (fin s m e) (fin t n d) =
    sum_comm f s (m * up e * down d) t (n * up d * down e) (down e * down d)
    ∙ ap (λ (c : ℕ). sum f t (n * up d * down e) s (m * up e * down d) c) (mul_comm (down e) (down d))

pub halfway_even : (x y : Float) → halfway_of x y ≡ halfway_of y x
unfolding halfway_of
halfway_even x y = ap (λ (z : Float). mul binary32 z half) (add_exchanged binary32 x y)

-- ---- a fraction of at most 2 ^ L rounds to a value of at most 2 ^ L

from_value : (x : Float) (s : Bool) (w N l : ℕ) → 0 < l → HasValue x s w l → w ≤ N * l → T (within N x)
from_value nan s w N l p v h = absurd v
from_value (inf t) s w N l p v h = absurd v
from_value (fin t m e) s w N l p v h =
    le→leb (m * up e) (N * down e)
    (le_of_mul-le-mul_right
    (le_trans (le_of_eq v.1) (le_trans (mul-le-mul_right (down e) h) (le_of_eq (mul_right_comm N l (down e))))) p)

whole : (m : ℕ) → closest m 1 ≡ m
whole m = rw (mod-one, div-one)

dropped : (z p j : ℕ) → z ≤ suc j → 2 ≤ p → z - p ≤ j
dropped z p j h g = omega arith

joined : (j k : ℕ) → k ≤ j → 2 ^ (j - k) * 2 ^ k ≡ 2 ^ j
joined j k h = sym (pow-add 2 (j - k) k) ∙ ap (λ (x : ℕ). 2 ^ x) (back j k h)
  where
    back : (j k : ℕ) → k ≤ j → j - k + k ≡ j
    back j k h = omega arith

pub round_within : (f : Format) (s : Bool) (a c L : ℕ) → 0 < c → L ≤ emax f → a ≤ 2 ^ L * c → T (within (2 ^ L) (round f s a c))
round_within f s a c L C small h =
    let l = low f in
    let j = L + l in
    let n = a * 2 ^ l in
    let k = size (n / c) - prec f in
    let u = c * 2 ^ k in
    let n_le : n ≤ 2 ^ j * c = le_trans (mul-le-mul_right (2 ^ l) h) (le_of_eq (mul_right_comm (2 ^ L) c (2 ^ l) ∙ ap (λ (x : ℕ). x * c) (sym (pow-add 2 L l)))) in
    let n_lt : n < 2 ^ suc j * c = lt_of_le_of_lt n_le (more j) in
    let k_le : k ≤ j = dropped (size (n / c)) (prec f) j (size-le (n / c) (suc j) ((div-lt_iff_lt-mul C).1 n_lt)) (two f) in
    let n_le' : n * 1 ≤ 2 ^ (j - k) * u = le_trans (le_of_eq (mul-one n)) (le_trans n_le (le_of_eq (sym (ap (λ (x : ℕ). x * c) (joined j k k_le)) ∙ mul_right_comm (2 ^ (j - k)) (2 ^ k) c ∙ mul_assoc (2 ^ (j - k)) c (2 ^ k)))) in
    let kept : closest n u ≤ 2 ^ (j - k) = le_trans (closest_mono n u (2 ^ (j - k)) 1 (mul-pos C (pow_pos k)) (pow_pos 0) n_le') (le_of_eq (whole (2 ^ (j - k)))) in
    let w : closest n u * 2 ^ k ≤ 2 ^ j = le_trans (mul-le-mul_right (2 ^ k) kept) (le_of_eq (joined j k k_le)) in
    subst (λ (x : Float). T (within (2 ^ L) x)) (sym (round_is f s a c))
    (from_value (units f s (closest n u) k) s (closest n u * 2 ^ k) (2 ^ L) (2 ^ l) (pow_pos l)
    (units_val f s (closest n u) k (lt_of_le_of_lt w (pow-lt (room L l (emax f) small))))
    (le_trans w (le_of_eq (pow-add 2 L l))))
  where
    more : (j : ℕ) → 2 ^ j * c < 2 ^ suc j * c
    more j = mul-lt-mul_of_pos_right (pow-lt (le_refl (suc j))) C

    room : (L l m : ℕ) → L ≤ m → L + l < l + suc m
    room L l m h = omega arith

-- ---- the middle of two lawful numbers is lawful: the sum is within 131,072, and half of that within 65,536

either : (n : ℕ) (b : Bool) (x y : Float) → T (within n x) → T (within n y) → T (within n (cond b x y))
either n true x y p q = p
either n false x y p q = q

sum_within : (s : Bool) (a : ℕ) (t : Bool) (b c : ℕ) → 0 < c → a ≤ 65536 * c → b ≤ 65536 * c → T (within 131072 (sum binary32 s a t b c))
unfolding sum
sum_within s a t b c C p q =
    let r : (v : Bool) (n : ℕ) → n ≤ 131072 * c → T (within 131072 (round binary32 v n c)) = λ v n h. round_within binary32 v n c 17 C (lit≤ tt) h in
    either 131072 (beq s t) _ _ (r s (a + b) (omega arith))
    (either 131072 (nat_lt a b) _ _ (r t (b - a) (omega arith)) (r (s && nat_lt b a) (a - b) (omega arith)))

pub add_within : (x y : Float) → T (lawful x) → T (lawful y) → T (within 131072 (add binary32 x y))
unfolding add
add_within nan y p q = absurd p
add_within (inf s) y p q = absurd p
add_within (fin s m e) nan p q = absurd q
add_within (fin s m e) (inf t) p q = absurd q
add_within (fin s m e) (fin t n d) p q =
    sum_within s (m * up e * down d) t (n * up d * down e) (down e * down d) (mul-pos (down_pos e) (down_pos d))
    (le_trans (mul-le-mul_right (down d) (leb→le (m * up e) (65536 * down e) p)) (le_of_eq (mul_assoc 65536 (down e) (down d))))
    (le_trans (mul-le-mul_right (down e) (leb→le (n * up d) (65536 * down d) q)) (le_of_eq (mul_assoc 65536 (down d) (down e) ∙ ap (λ (c : ℕ). 65536 * c) (mul_comm (down d) (down e)))))

pub half_within : (x : Float) → T (within 131072 x) → T (lawful (mul binary32 x half))
unfolding mul
half_within nan p = absurd p
half_within (inf s) p = absurd p
half_within (fin s m e) p =
    let h = leb→le (m * up e) (131072 * down e) p in
    let d = down_pos e in
    round_within binary32 (unlike s false) (m * up e * 1) (down e * 2) 16 (omega arith) (lit≤ tt) (omega arith)

pub halfway_lawful : (x y : Float) → T (lawful x) → T (lawful y) → T (lawful (halfway_of x y))
unfolding halfway_of
halfway_lawful x y p q = half_within (add binary32 x y) (add_within x y p q)
