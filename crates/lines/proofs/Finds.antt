-- The word and the line that `word` and `line` find are those that the text begins with.
use Rattle.std.proofs.Common.{◌≡◌, ℕ, zero, suc, ◌+◌, ◌*◌, ◌/◌, ◌%◌, ◌^◌, ◌<◌, true, ◌&&◌, eqb, ltb, List, [], ◌∷◌, ◌++◌, length, get_or, drop, IfSome, Some, None, Option, sym, refl, ap, ◌∙◌, subst, div-lt_iff_lt-mul, pow-suc, arith}
use Rattle.std.specs.List.{AllByRecursion}
use Rattle.std.proofs.ByRecursion.{All-from_get_or}
use Rattle.std.proofs.lemmas.List.{drop_at}
use Rattle.std.proofs.lemmas.Bool.{cond_both, cond-true, and_parts, and_from, ltb-true, ltb-false, lt-ltb, eqb-true, eq-eqb}
use Rattle.lines.specs.Lines.{digit_of, Ends, Word, Words, Line, NoLine}
use Rattle.lines.specs.Reading.{front, number, same, word, words, before, ended, line}
use Rattle.lines.specs.Text.{hex_byte, digits, width, word_text, WordSized}
use Rattle.lines.proofs.LineWords.{first_two, line_words, words_line}
use Rattle.lines.proofs.Words.{digit_back, digit_le, digit_in, length_digits, wide, width_is}

-- ---- the digits in front
front_split : (s : List ℕ) → s ≡ front s ++ drop (length (front s)) s
unfolding front
front_split [] = refl
front_split (b ∷ s) = cond_both (ltb (digit_of b) 16) (b ∷ front s) [] (λ x. b ∷ s ≡ x ++ drop (length x) (b ∷ s)) (λ _. ap (λ (x : List ℕ). b ∷ x) (front_split s)) (λ _. refl)

front_ends : (s : List ℕ) → Ends (drop (length (front s)) s)
unfolding front
front_ends [] = refl
front_ends (b ∷ s) =
    cond_both (ltb (digit_of b) 16) (b ∷ front s) [] (λ x. Ends (drop (length x) (b ∷ s))) (λ _. front_ends s)
    (λ e. let h = ltb-false (digit_of b) 16 e in let k = digit_le b in omega arith)

front_none : (t : List ℕ) → Ends t → front t ≡ []
unfolding front
front_none [] e = refl
front_none (b ∷ t) e = cond_both (ltb (digit_of b) 16) (b ∷ front t) [] (λ x. x ≡ []) (λ h. let k = ltb-true (digit_of b) 16 h in absurd (omega arith)) (λ _. refl)

front_append : (xs t : List ℕ) → AllByRecursion (λ b. digit_of b < 16) xs → Ends t → front (xs ++ t) ≡ xs
unfolding front
front_append [] t a e = front_none t e
front_append (b ∷ xs) t a e = cond-true (ltb (digit_of b) 16) (b ∷ front (xs ++ t)) [] (lt-ltb (digit_of b) 16 a.0) ∙ ap (λ (x : List ℕ). b ∷ x) (front_append xs t a.1 e)

-- ---- the number that digits write
number_push : (n : ℕ) (xs : List ℕ) (b : ℕ) → number n (xs ++ b ∷ []) ≡ number n xs * 16 + digit_of b
unfolding number
number_push n [] b = refl
number_push n (x ∷ xs) b = number_push (n * 16 + digit_of x) xs b

number_digits : (k n : ℕ) → n < 16 ^ k → number 0 (digits k n) ≡ n
unfolding number digits
number_digits zero n h = omega arith
number_digits (suc k) n h =
    let p = pow-suc 16 k in
    let q : n / 16 < 16 ^ k = (div-lt_iff_lt-mul {k = 16} (omega arith)).1 (omega arith) in
    let r = number_digits k (n / 16) q in
    let d : digit_of (hex_byte (n % 16)) ≡ n % 16 = digit_back (n % 16) (omega arith) in
    number_push 0 (digits k (n / 16)) (hex_byte (n % 16)) ∙ omega arith

-- a word's digits are all digits, and write it
word_digits : (n : ℕ) → AllByRecursion (λ b. digit_of b < 16) (word_text n)
unfolding word_text
word_digits n = All-from_get_or (λ b. digit_of b < 16) (digits (width n) n) 0 (λ k h. let l = length_digits (width n) n in digit_in (width n) n k (omega arith))

number_word : (n : ℕ) → WordSized n → number 0 (word_text n) ≡ n
unfolding word_text
number_word n h =
    let w = wide n h in
    let F : ℕ → Type 0 = λ k. n < 16 ^ k in
    number_digits (width n) n (subst F (sym (width_is n w.0 w.1)) w.1.under)

-- ---- lists by a test
same_true : (xs ys : List ℕ) → same xs ys ≡ true → xs ≡ ys
unfolding same
same_true [] [] e = refl
same_true [] (y ∷ ys) e = let z : ◌≡◌ {A = ℕ} 0 1 = cc in absurd (omega arith)
same_true (x ∷ xs) [] e = let z : ◌≡◌ {A = ℕ} 0 1 = cc in absurd (omega arith)
same_true (x ∷ xs) (y ∷ ys) e =
    let p = and_parts (eqb x y) (same xs ys) e in
    ap (λ (a : ℕ). a ∷ xs) (eqb-true x y p.0) ∙ ap (λ (l : List ℕ). y ∷ l) (same_true xs ys p.1)

same_self : (xs : List ℕ) → same xs xs ≡ true
unfolding same
same_self [] = refl
same_self (x ∷ xs) = and_from (eqb x x) (same xs xs) (eq-eqb x x refl) (same_self xs)

-- ---- a word
pub word_right : (s : List ℕ) → IfSome (word s) (λ p. Word s p.0 p.1)
unfolding word
word_right s =
    let n = number 0 (front s) in
    cond_both (ltb n 16777216 && same (front s) (word_text n)) (Some (n, drop (length (front s)) s)) None (λ o. IfSome o (λ p. Word s p.0 p.1))
    (λ e.
    let p = and_parts (ltb n 16777216) (same (front s) (word_text n)) e in
    record {
      small = ltb-true n 16777216 p.0;
      text = front_split s ∙ ap (λ (x : List ℕ). x ++ drop (length (front s)) s) (same_true (front s) (word_text n) p.1);
      ends = front_ends s;
    })
    (λ _. tt)

-- a text that begins with digits which are those of n
word_at : (s d : List ℕ) (n : ℕ) → front s ≡ d → d ≡ word_text n → number 0 d ≡ n → WordSized n → word s ≡ Some (n, drop (length d) s)
unfolding word
word_at s d n f e g h =
    let a : number 0 (front s) ≡ n = ap (number 0) f ∙ g in
    let b : same (front s) (word_text (number 0 (front s))) ≡ true = ap (λ (x : ℕ). same (front s) (word_text x)) a ∙ ap (λ (x : List ℕ). same x (word_text n)) (f ∙ e) ∙ same_self (word_text n) in
    cond-true (ltb (number 0 (front s)) 16777216 && same (front s) (word_text (number 0 (front s)))) (Some (number 0 (front s), drop (length (front s)) s)) None
    (and_from (ltb (number 0 (front s)) 16777216) (same (front s) (word_text (number 0 (front s)))) (lt-ltb (number 0 (front s)) 16777216 (omega arith)) b)
    ∙ ap (λ (x : ℕ). Some (x, drop (length (front s)) s)) a
    ∙ ap (λ (x : List ℕ). Some (n, drop (length x) s)) f

pub word_finds : (s : List ℕ) (n : ℕ) (t : List ℕ) → Word s n t → word s ≡ Some (n, t)
word_finds s n t w =
    let f : front s ≡ word_text n = ap front w.text ∙ front_append (word_text n) t (word_digits n) w.ends in
    word_at s (word_text n) n f refl (number_word n w.small) w.small
    ∙ ap (λ (x : List ℕ). Some (n, x)) (ap (λ (x : List ℕ). drop (length (word_text n)) x) w.text ∙ drop_at (word_text n) t (length (word_text n)) refl)

-- ---- words
-- what a search gave after a space
before_right : (s : List ℕ) (b : ℕ) (k : ℕ) (n : ℕ) (t : List ℕ) (o : Option (List ℕ × List ℕ)) → b ≡ 32 → Word s n t → IfSome o (λ p. (length p.0 ≡ k) × Words t p.0 p.1) → IfSome (before n o) (λ p. (length p.0 ≡ suc k) × Words (b ∷ s) p.0 p.1)
before_right s b k n t None e w c = tt
before_right s b k n t (Some p) e w c = (ap suc c.0, (t, record { from = s; space = ap (λ (x : ℕ). x ∷ s) e; word = w }, c.1))

pub words_right : (k : ℕ) (s : List ℕ) → IfSome (words k s) (λ p. (length p.0 ≡ k) × Words s p.0 p.1)
unfolding words
words_right zero s = (refl, refl)
words_right (suc k) [] = tt
words_right (suc k) (b ∷ s) =
    cond_both (eqb b 32) (elim (word s) [ None ↦ None | Some p ↦ before p.0 (words k p.1) ]) None (λ o. IfSome o (λ p. (length p.0 ≡ suc k) × Words (b ∷ s) p.0 p.1))
    (λ e. then (word s) (word_right s) (eqb-true b 32 e) (words_right k))
    (λ _. tt)
  where
    then : (o : Option (ℕ × List ℕ)) → IfSome o (λ p. Word s p.0 p.1) → b ≡ 32 → ((t : List ℕ) → IfSome (words k t) (λ p. (length p.0 ≡ k) × Words t p.0 p.1)) → IfSome (elim o [ None ↦ None | Some p ↦ before p.0 (words k p.1) ]) (λ p. (length p.0 ≡ suc k) × Words (b ∷ s) p.0 p.1)
    then None c e more = tt
    then (Some p) c e more = before_right s b k p.0 p.1 (words k p.1) e c (more p.1)

pub words_find : (ns s t : List ℕ) → Words s ns t → words (length ns) s ≡ Some (ns, t)
unfolding words
words_find [] s t w = ap (λ (x : List ℕ). Some ([], x)) w
words_find (n ∷ ns) s t w =
    ap (words (suc (length ns))) w.1.space
    ∙ ap (λ (o : Option (ℕ × List ℕ)). elim o [ None ↦ None | Some p ↦ before p.0 (words (length ns) p.1) ]) (word_finds w.1.from n w.0 w.1.word)
    ∙ ap (before n) (words_find ns w.0 t w.2)

-- ---- a line
pub line_right : (a b k : ℕ) (s : List ℕ) → IfSome (line a b k s) (λ p. (length p.0 ≡ k) × Line a b s p.0 p.1)
unfolding line
line_right a b k [] = tt
line_right a b k (x ∷ []) = tt
line_right a b k (x ∷ (y ∷ s)) =
    cond_both (eqb x a && eqb y b) (elim (words k s) [ None ↦ None | Some p ↦ ended p.0 p.1 ]) None (λ o. IfSome o (λ p. (length p.0 ≡ k) × Line a b (x ∷ (y ∷ s)) p.0 p.1))
    (λ e. let p = and_parts (eqb x a) (eqb y b) e in then (words k s) (words_right k s) (eqb-true x a p.0) (eqb-true y b p.1))
    (λ _. tt)
  where
    end : (ns t : List ℕ) → length ns ≡ k → Words s ns t → x ≡ a → y ≡ b → IfSome (ended ns t) (λ p. (length p.0 ≡ k) × Line a b (x ∷ (y ∷ s)) p.0 p.1)
    end ns [] l w f g = tt
    end ns (z ∷ t) l w f g =
        cond_both (eqb z 10) (Some (ns, t)) None (λ o. IfSome o (λ p. (length p.0 ≡ k) × Line a b (x ∷ (y ∷ s)) p.0 p.1))
        (λ e. let P : List ℕ → Type 0 = λ u. Words s ns u in (l, words_line a b (x ∷ (y ∷ s)) ns t (omega arith) f g (subst P (ap (λ (v : ℕ). v ∷ t) (eqb-true z 10 e)) w)))
        (λ _. tt)

    then : (o : Option (List ℕ × List ℕ)) → IfSome o (λ p. (length p.0 ≡ k) × Words s p.0 p.1) → x ≡ a → y ≡ b → IfSome (elim o [ None ↦ None | Some p ↦ ended p.0 p.1 ]) (λ p. (length p.0 ≡ k) × Line a b (x ∷ (y ∷ s)) p.0 p.1)
    then None c f g = tt
    then (Some p) c f g = end p.0 p.1 c.0 c.1 f g

pub line_finds : (a b : ℕ) (s ns t : List ℕ) → Line a b s ns t → line a b (length ns) s ≡ Some (ns, t)
unfolding line
line_finds a b s ns t l =
    let w = line_words a b s ns t l in
    let e : s ≡ a ∷ (b ∷ drop 2 s) = first_two s w.0 ∙ ap (λ (x : ℕ). x ∷ (get_or s 1 0 ∷ drop 2 s)) w.1 ∙ ap (λ (x : ℕ). a ∷ (x ∷ drop 2 s)) w.2 in
    ap (line a b (length ns)) e
    ∙ cond-true (eqb a a && eqb b b) (elim (words (length ns) (drop 2 s)) [ None ↦ None | Some p ↦ ended p.0 p.1 ]) None (and_from (eqb a a) (eqb b b) (eq-eqb a a refl) (eq-eqb b b refl))
    ∙ ap (λ (o : Option (List ℕ × List ℕ)). elim o [ None ↦ None | Some p ↦ ended p.0 p.1 ]) (words_find ns (drop 2 s) (10 ∷ t) w.3)

pub line_none : (a b k : ℕ) (s : List ℕ) → NoLine a b k s → line a b k s ≡ None
line_none a b k s none = go (line a b k s) (line_right a b k s)
  where
    go : (o : Option (List ℕ × List ℕ)) → IfSome o (λ p. (length p.0 ≡ k) × Line a b s p.0 p.1) → o ≡ None
    go None c = refl
    go (Some p) c = absurd (none p.0 p.1 c.0 c.1)
