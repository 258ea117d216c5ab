-- Lemmas on the digits of a word. Assumes nothing.
use Rattle.std.proofs.Common.{◌≡◌, ℕ, zero, suc, ◌+◌, ◌-◌, ◌*◌, ◌/◌, ◌%◌, ◌^◌, ◌<◌, ◌≤◌, ◌⊎◌, List, [], ◌∷◌, ◌++◌, length, get_or, take, drop, sym, refl, ap, ◌∙◌, subst, inl, inr, mod-eq_of_lt, mul_comm, div-lt_iff_lt-mul, pow-suc, div-one, add-one, arith, length-append}
use native.Mathlib.Nat.{pow-le-pow_right, div-eq_of_lt, div-div-eq-div-mul}
use Rattle.std.proofs.lemmas.Bool.Decides.{nat_tests, leb_tells}
use Rattle.std.proofs.lemmas.List.{get_or_past, take_more, take_at, drop_at, take-append-drop, get_or-take, get_or-drop, get_or_append_left, get_or-append_right, get_or_at, same_from_push}
use Rattle.lines.specs.Lines.{digit_of, Word, Run}
use Rattle.lines.specs.Text.{hex_byte, digits, width, word_text}

lt_or_ge : (a b : ℕ) → (a < b) ⊎ (b ≤ a)
lt_or_ge a b = elim (leb_tells b a) [ inl p ↦ inr p.1 | inr p ↦ inl p.1 ]

-- ---- one digit
pub byte_back : (b : ℕ) → digit_of b < 16 → hex_byte (digit_of b) ≡ b
byte_back b h = grind (arith, nat_tests)

pub digit_back : (d : ℕ) → d < 16 → digit_of (hex_byte d) ≡ d
digit_back d h = grind (arith, nat_tests)

pub digit_le : (b : ℕ) → digit_of b ≤ 16
digit_le b = grind (arith, nat_tests)

-- past the end no digit is found
pub digit_inside : (s : List ℕ) (i : ℕ) → digit_of (get_or s i 0) < 16 → i < length s
digit_inside s i h = elim (lt_or_ge i (length s)) [
  | inl a ↦ a
  | inr a ↦ let e = ap digit_of (get_or_past s i 0 a) in absurd (omega arith)
]

only_zero : (d : ℕ) → hex_byte d ≡ 48 → d ≡ 0
only_zero d e = grind (arith, nat_tests)

-- ---- one digit more
whole : (n d : ℕ) → d < 16 → (n * 16 + d) / 16 ≡ n
whole n d h = omega arith

rest : (n d : ℕ) → d < 16 → (n * 16 + d) % 16 ≡ d
rest n d h = omega arith

digits_more : (i n d : ℕ) → d < 16 → digits (i + 1) (n * 16 + d) ≡ digits i n ++ (hex_byte d ∷ [])
unfolding digits
digits_more i n d h = rw (add-one, whole n d h, rest n d h)

pub text_more : (s : List ℕ) (n i : ℕ) → i < length s → digit_of (get_or s i 0) < 16 → take i s ≡ digits i n → take (i + 1) s ≡ digits (i + 1) (n * 16 + digit_of (get_or s i 0))
text_more s n i h d e =
    take_more s i 0 h
    ∙ ap (λ (x : List ℕ). x ++ (get_or s i 0 ∷ [])) e
    ∙ ap (λ (b : ℕ). digits i n ++ (b ∷ [])) (sym (byte_back (get_or s i 0) d))
    ∙ sym (digits_more i n (digit_of (get_or s i 0)) d)

pub fits_more : (n i d : ℕ) → n < 16 ^ i → d < 16 → n * 16 + d < 16 ^ (i + 1)
fits_more n i d h k = let e : 16 ^ (i + 1) ≡ 16 ^ i * 16 = ap (λ (j : ℕ). 16 ^ j) (add-one i) ∙ pow-suc 16 i in omega arith

pub fits_six : (n i : ℕ) → i ≤ 6 → n < 16 ^ i → n < 16777216
fits_six n i h k = let m : 16 ^ i ≤ 16 ^ 6 = pow-le-pow_right {n = 16} (omega arith) h in omega arith

-- ---- the digits of a number
pub length_digits : (i n : ℕ) → length (digits i n) ≡ i
unfolding digits
length_digits zero n = refl
length_digits (suc i) n = length-append (digits i (n / 16)) (hex_byte (n % 16) ∷ []) ∙ (let h = length_digits i (n / 16) in omega arith)

pub digit_in : (i n k : ℕ) → k < i → digit_of (get_or (digits i n) k 0) < 16
unfolding digits
digit_in zero n k h = absurd (omega arith)
digit_in (suc i) n k h =
    let l = length_digits i (n / 16) in
    elim (lt_or_ge k i) [
      | inl a ↦ subst (λ (b : ℕ). digit_of b < 16) (sym (get_or_append_left (digits i (n / 16)) _ 0 k (omega arith))) (digit_in i (n / 16) k a)
      | inr a ↦
          let e : digit_of (hex_byte (n % 16)) ≡ n % 16 = digit_back (n % 16) (omega arith) in
          let g : length (digits i (n / 16)) ≡ k = omega arith in
          subst (λ (b : ℕ). digit_of b < 16) (sym (get_or_at (digits i (n / 16)) (hex_byte (n % 16)) [] 0 k g)) (omega arith)
    ]

first : (i n : ℕ) → n < 16 ^ suc i → get_or (digits (suc i) n) 0 0 ≡ hex_byte (n / 16 ^ i)
unfolding digits
first zero n h = ap hex_byte (mod-eq_of_lt h ∙ sym (div-one n))
first (suc i) n h =
    let p = pow-suc 16 (suc i) in
    let l = length_digits (suc i) (n / 16) in
    get_or_append_left (digits (suc i) (n / 16)) _ 0 0 (omega arith)
    ∙ first i (n / 16) ((div-lt_iff_lt-mul {k = 16} (omega arith)).1 (omega arith))
    ∙ ap hex_byte (div-div-eq-div-mul n 16 (16 ^ i) ∙ ap (λ (x : ℕ). n / x) (mul_comm 16 (16 ^ i) ∙ sym (pow-suc 16 i)))

digits_same : (i n m : ℕ) → n < 16 ^ i → m < 16 ^ i → digits i n ≡ digits i m → n ≡ m
unfolding digits
digits_same zero n m h k e = omega arith
digits_same (suc i) n m h k e =
    let p = pow-suc 16 i in
    let q = same_from_push (digits i (n / 16)) (digits i (m / 16)) (hex_byte (n % 16)) (hex_byte (m % 16)) e in
    let x : n / 16 ≡ m / 16 = digits_same i (n / 16) (m / 16) ((div-lt_iff_lt-mul {k = 16} (omega arith)).1 (omega arith)) ((div-lt_iff_lt-mul {k = 16} (omega arith)).1 (omega arith)) q.0 in
    let y : n % 16 ≡ m % 16 = sym (digit_back (n % 16) (omega arith)) ∙ ap digit_of q.1 ∙ digit_back (m % 16) (omega arith) in
    omega arith

-- ---- how many digits a word has: n needs i + 1
pub record Wide (n i : ℕ) : Type 0 where
  pub few : i < 6
  pub under : n < 16 ^ suc i
  pub over : 0 < i → 16 ^ i ≤ n

pub width_is : (n i : ℕ) → Wide n i → width n ≡ suc i
width_is n zero w = let a = w.under in grind (arith, nat_tests)
width_is n (suc zero) w = let a = w.under in let b = w.over (omega arith) in grind (arith, nat_tests)
width_is n (suc (suc zero)) w = let a = w.under in let b = w.over (omega arith) in grind (arith, nat_tests)
width_is n (suc (suc (suc zero))) w = let a = w.under in let b = w.over (omega arith) in grind (arith, nat_tests)
width_is n (suc (suc (suc (suc zero)))) w = let a = w.under in let b = w.over (omega arith) in grind (arith, nat_tests)
width_is n (suc (suc (suc (suc (suc zero))))) w = let a = w.under in let b = w.over (omega arith) in grind (arith, nat_tests)
width_is n (suc (suc (suc (suc (suc (suc i)))))) w = let a = w.few in absurd (omega arith)

-- the least i with n below 16 ^ (i + 1)
search_wide : (k i n : ℕ) → k + i ≡ 5 → n < 16777216 → (0 < i → 16 ^ i ≤ n) → (j : ℕ) × Wide n j
search_wide zero i n e h o = (i, record { few = omega arith; under = subst (λ (x : ℕ). n < 16 ^ suc x) (sym (five i e)) h; over = o })
  where
    five : (i : ℕ) → 0 + i ≡ 5 → i ≡ 5
    five i e = omega arith
search_wide (suc k) i n e h o =
    elim (lt_or_ge n (16 ^ suc i)) [
      | inl a ↦ (i, record { few = omega arith; under = a; over = o })
      | inr a ↦ search_wide k (suc i) n (omega arith) h (λ _. a)
    ]

pub wide : (n : ℕ) → n < 16777216 → (i : ℕ) × Wide n i
wide n h = search_wide 5 0 n refl h (λ z. absurd (omega arith))

-- ---- a run of digits, and a word

-- each of the first i bytes is a digit
run_digit : (s : List ℕ) (n i k : ℕ) → take i s ≡ digits i n → k < i → digit_of (get_or s k 0) < 16
run_digit s n i k e h = subst (λ (b : ℕ). digit_of b < 16) (ap (λ (l : List ℕ). get_or l k 0) (sym e) ∙ get_or-take i s k 0 h) (digit_in i n k h)

-- its first byte, where it fills i + 1 digits
run_first : (s : List ℕ) (n i : ℕ) → take (suc i) s ≡ digits (suc i) n → n < 16 ^ suc i → get_or s 0 0 ≡ hex_byte (n / 16 ^ i)
run_first s n i e h = sym (get_or-take (suc i) s 0 0 (omega arith)) ∙ ap (λ (l : List ℕ). get_or l 0 0) e ∙ first i n h

-- a run that is a word: not empty, not seven, and no 0 in front of another digit
pub run_word : (s : List ℕ) (n i : ℕ) → Run s n i → 0 < i → i < 7 → (1 < i → get_or s 0 0 ≡ 48 → ⊥) → Word s n (drop i s)
unfolding word_text
run_word s n zero r p q z = absurd (omega arith)
run_word s n (suc i) r p q z =
    let o : 0 < i → 16 ^ i ≤ n = λ h. elim (lt_or_ge n (16 ^ i)) [
      | inl a ↦ absurd (z (omega arith) (run_first s n i r.text r.fits ∙ ap hex_byte (div-eq_of_lt a)))
      | inr a ↦ a
    ] in
    let w : width n ≡ suc i = width_is n i (record { few = omega arith; under = r.fits; over = o }) in
    record {
      small = fits_six n (suc i) (omega arith) r.fits;
      text = sym (take-append-drop (suc i) s) ∙ ap (λ (l : List ℕ). l ++ drop (suc i) s) (r.text ∙ ap (λ (k : ℕ). digits k n) (sym w));
      ends = ap digit_of (get_or-drop (suc i) s 0 0 ∙ ap (λ (k : ℕ). get_or s k 0) (plus_zero (suc i))) ∙ r.last q;
    }
  where
    plus_zero : (k : ℕ) → k + 0 ≡ k
    plus_zero k = omega arith

-- a word is a run
word_run : (s : List ℕ) (n : ℕ) (t : List ℕ) → Word s n t → (i : ℕ) × Wide n i × Run s n (suc i) × (t ≡ drop (suc i) s)
unfolding word_text
word_run s n t w =
    let p = wide n w.small in
    let i = p.0 in
    let e : s ≡ digits (suc i) n ++ t = w.text ∙ ap (λ (k : ℕ). digits k n ++ t) (width_is n i p.1) in
    let l = length_digits (suc i) n in
    let ls : length s ≡ suc i + length t = ap length e ∙ length-append (digits (suc i) n) t ∙ ap (λ (k : ℕ). k + length t) l in
    let f = p.1.few in (
      i,
      p.1,
      record {
        few = omega arith;
        inside = omega arith;
        text = ap (λ (x : List ℕ). take (suc i) x) e ∙ take_at (digits (suc i) n) t (suc i) l;
        fits = p.1.under;
        last = λ _. ap (λ (x : List ℕ). digit_of (get_or x (suc i) 0)) e ∙ ap digit_of (get_or-append_right (digits (suc i) n) t (suc i) (suc i) 0 l (omega arith) ∙ ap (λ (k : ℕ). get_or t k 0) (less_itself (suc i))) ∙ w.ends;
      },
      sym (ap (λ (x : List ℕ). drop (suc i) x) e ∙ drop_at (digits (suc i) n) t (suc i) l),
    )
  where
    less_itself : (k : ℕ) → k - k ≡ 0
    less_itself k = omega arith

-- two runs at one place are as long: a third way would have a byte that is a digit and is none
runs_long : (s : List ℕ) (n i m j : ℕ) → Run s n i → Run s m j → j < 7 → i ≤ j
runs_long s n i m j r q h = elim (lt_or_ge j i) [
  | inl a ↦ let x = run_digit s n i j r.text a in let y = q.last h in absurd (omega arith)
  | inr a ↦ a
]

pub word_fills : (s : List ℕ) (n i : ℕ) → Run s n i → (m : ℕ) (t : List ℕ) → Word s m t → (0 < i) × (i < 7) × (1 < i → get_or s 0 0 ≡ 48 → ⊥)
word_fills s n i r m t w =
    let p = word_run s m t w in
    let j = p.0 in
    let f = p.1.few in
    let a = runs_long s n i m (suc j) r p.2 (omega arith) in
    let b = runs_long s m (suc j) n i p.2 r (omega arith) in (
      omega arith,
      omega arith,
      λ h z.
          let d = only_zero (m / 16 ^ j) (sym (run_first s m j p.2.text p.1.under) ∙ z) in
          let u : m < 1 * 16 ^ j = (div-lt_iff_lt-mul {k = 16 ^ j} (pow_up j)).0 (omega arith) in
          let v = p.1.over (omega arith) in
          omega arith,
    )
  where
    pow_up : (j : ℕ) → 0 < 16 ^ j
    pow_up j = pow-le-pow_right {n = 16} (omega arith) {i = 0} {j = j} (omega arith)

-- the word at a place is one, and so is what follows it
pub same_word : (s : List ℕ) (n : ℕ) (t : List ℕ) (m : ℕ) (u : List ℕ) → Word s n t → Word s m u → (n ≡ m) × (t ≡ u)
same_word s n t m u v w =
    let p = word_run s n t v in
    let q = word_run s m u w in
    let f = p.1.few in
    let g = q.1.few in
    let a = runs_long s n (suc p.0) m (suc q.0) p.2 q.2 (omega arith) in
    let b = runs_long s m (suc q.0) n (suc p.0) q.2 p.2 (omega arith) in
    let e : p.0 ≡ q.0 = omega arith in
    let R : ℕ → Type 0 = λ k. Run s n (suc k) in
    let r = subst R e p.2 in
    (digits_same (suc q.0) n m r.fits q.2.fits (sym r.text ∙ q.2.text), p.3 ∙ ap (λ (k : ℕ). drop (suc k) s) e ∙ sym q.3)
