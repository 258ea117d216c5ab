-- One write after another. Assumes nothing.
use Rattle.std.proofs.Common.{◌≡◌, ℕ, zero, suc, ◌+◌, ◌-◌, ◌*◌, ◌/◌, ◌%◌, ◌<◌, ◌≤◌, List, [], ◌∷◌, ◌++◌, length, get_or, take, drop, set, sym, refl, ap, ◌∙◌, subst, append_assoc, arith, length-append, length-drop}
use Rattle.std.proofs.lemmas.Bool.Decides.{nat_tests}
use Rattle.std.proofs.lemmas.List.{append-nil, take_more, take-append-drop, set_split, take_at, take-append-le, take-take, drop_at, drop-drop, length-take-le}
use Rattle.std.specs.List.{sum_by}
use Rattle.std.proofs.lemmas.List.Recursion.{is_sum_by}
use Rattle.std.proofs.lemmas.List.Sums.{sum_by-cons}
use Rattle.lines.specs.Text.{hex_byte, digits, width, word_text, words_text, line_text}
use Rattle.text.specs.Put.{Put, Room, Wrote}
use Rattle.text.specs.declared.put.Writer.{Writer}
use Rattle.lines.proofs.Words.{length_digits}

pub put_none : (e : List ℕ) (at : ℕ) → at ≤ length e → Put e at [] at e
put_none e at h = record { place = plus_zero at; inside = h; text = sym (take-append-drop at e) }
  where
    plus_zero : (k : ℕ) → k ≡ k + 0
    plus_zero k = omega arith

pub put_one : (e : List ℕ) (at b : ℕ) → at < length e → Put e at (b ∷ []) (at + 1) (set e at b)
put_one e at b h = record { place = refl; inside = omega arith; text = set_split e at b h ∙ ap (λ (k : ℕ). take at e ++ (b ∷ drop k e)) (next at) }
  where
    next : (k : ℕ) → suc k ≡ k + 1
    next k = omega arith

pub put_length : (e : List ℕ) (at : ℕ) (t : List ℕ) (end : ℕ) (o : List ℕ) → Put e at t end o → length o ≡ length e
put_length e at t end o p =
    let i = p.inside in
    let q = p.place in
    let a = length-take-le at e (omega arith) in
    let b = length-drop end e in
    ap length p.text ∙ length-append (take at e) (t ++ drop end e) ∙ ap (λ (k : ℕ). length (take at e) + k) (length-append t (drop end e)) ∙ omega arith

pub put_more : (e : List ℕ) (at : ℕ) (t : List ℕ) (mid : ℕ) (o : List ℕ) (u : List ℕ) (end : ℕ) (o' : List ℕ) → Put e at t mid o → Put o mid u end o' → Put e at (t ++ u) end o'
put_more e at t mid o u end o' p q =
    let i = p.inside in
    let pp = p.place in
    let qp = q.place in
    let front = take at e ++ t in
    let l : length front ≡ mid = length-append (take at e) t ∙ (let a = length-take-le at e (omega arith) in omega arith) in
    let o_is : o ≡ front ++ drop mid e = p.text ∙ sym (append_assoc (take at e) t (drop mid e)) in
    let x : take mid o ≡ front = ap (λ (z : List ℕ). take mid z) o_is ∙ take_at front (drop mid e) mid l in
    let y : drop end o ≡ drop end e =
    ap (λ (k : ℕ). drop k o) qp ∙ sym (drop-drop (length u) mid o) ∙ ap (λ (z : List ℕ). drop (length u) z) (ap (λ (z : List ℕ). drop mid z) o_is ∙ drop_at front (drop mid e) mid l) ∙ drop-drop (length u) mid e ∙ ap (λ (k : ℕ). drop k e) (sym qp) in
    record {
      place = qp ∙ (let a = length-append t u in omega arith);
      inside = subst (λ (k : ℕ). end ≤ k) (put_length e at t mid o p) q.inside;
      text = q.text ∙ ap (λ (z : List ℕ). z ++ (u ++ drop end o)) x ∙ ap (λ (z : List ℕ). front ++ (u ++ z)) y ∙ append_assoc (take at e) t (u ++ drop end e) ∙ ap (λ (z : List ℕ). take at e ++ z) (sym (append_assoc t u (drop end e)));
    }

-- ---- the text of words, word by word
words_push : (ns : List ℕ) (n : ℕ) → words_text (ns ++ (n ∷ [])) ≡ words_text ns ++ (32 ∷ word_text n)
unfolding words_text
words_push [] n = ap (λ (x : List ℕ). 32 ∷ x) (append-nil (word_text n))
words_push (m ∷ ns) n = ap (λ (x : List ℕ). 32 ∷ (word_text m ++ x)) (words_push ns n) ∙ ap (λ (x : List ℕ). 32 ∷ x) (sym (append_assoc (word_text m) (words_text ns) (32 ∷ word_text n)))

pub words_more : (ws : List ℕ) (i : ℕ) → i < length ws → words_text (take (i + 1) ws) ≡ words_text (take i ws) ++ (32 ∷ word_text (get_or ws i 0))
words_more ws i h = ap words_text (take_more ws i 0 h) ∙ words_push (take i ws) (get_or ws i 0)

pub length_word : (n : ℕ) → length (word_text n) ≡ width n
unfolding word_text
length_word n = length_digits (width n) n

pub length_more : (ws : List ℕ) (i : ℕ) → i < length ws → length (words_text (take (i + 1) ws)) ≡ length (words_text (take i ws)) + (1 + width (get_or ws i 0))
length_more ws i h = ap length (words_more ws i h) ∙ length-append (words_text (take i ws)) (32 ∷ word_text (get_or ws i 0)) ∙ (let a = length_word (get_or ws i 0) in omega arith)

pub length_part : (ws : List ℕ) (i : ℕ) → length (words_text (take i ws)) ≤ length (words_text ws)
unfolding words_text
length_part [] zero = omega arith
length_part [] (suc i) = omega arith
length_part (w ∷ ws) zero = omega arith
length_part (w ∷ ws) (suc i) = let a = length_part ws i in let b = length-append (word_text w) (words_text (take i ws)) in let c = length-append (word_text w) (words_text ws) in omega arith

pub length_line : (a b : ℕ) (ns : List ℕ) → length (line_text a b ns) ≡ 3 + length (words_text ns)
unfolding line_text
length_line a b ns = let h = length-append (words_text ns) (10 ∷ []) in omega arith

-- ---- digits, the last one first
-- one byte more before a text
put_before : (e : List ℕ) (at b : ℕ) (t : List ℕ) (end : ℕ) (o : List ℕ) → Put e (at + 1) t end o → Put e at (b ∷ t) end (set o at b)
put_before e at b t end o p =
    let i = p.inside in
    let q = p.place in
    let l : length (take (at + 1) e) ≡ at + 1 = length-take-le (at + 1) e (omega arith) in
    let m : length o ≡ length e = put_length e (at + 1) t end o p in
    let front : take at o ≡ take at e = ap (λ (z : List ℕ). take at z) p.text ∙ take-append-le at (take (at + 1) e) (t ++ drop end e) (omega arith) ∙ take-take at (at + 1) e (omega arith) in
    let back : drop (at + 1) o ≡ t ++ drop end e = ap (λ (z : List ℕ). drop (at + 1) z) p.text ∙ drop_at (take (at + 1) e) (t ++ drop end e) (at + 1) l in
    record {
      place = omega arith;
      inside = i;
      text = set_split o at b (omega arith) ∙ ap (λ (k : ℕ). take at o ++ (b ∷ drop k o)) (next at) ∙ ap (λ (z : List ℕ). z ++ (b ∷ drop (at + 1) o)) front ∙ ap (λ (z : List ℕ). take at e ++ (b ∷ z)) back;
    }
  where
    next : (k : ℕ) → suc k ≡ k + 1
    next k = omega arith

-- the digits of n are written from place p on, and the others are those of `left`
pub record DigitsFrom (e : List ℕ) (at count n p left : ℕ) (o : List ℕ) : Type 0 where
  pub from : at ≤ p
  pub written : List ℕ
  pub put : Put e p written (at + count) o
  pub rest : digits count n ≡ digits (p - at) left ++ written

pub digits_first : (e : List ℕ) (at count n : ℕ) → at + count ≤ length e → DigitsFrom e at count n (at + count) n e
digits_first e at count n h =
    let whole : count ≡ at + count - at = omega arith in
    record {
      from = omega arith;
      written = [];
      put = put_none e (at + count) h;
      rest = sym (append-nil (digits count n)) ∙ ap (λ (k : ℕ). digits k n ++ []) whole;
    }

pub digits_next : (e : List ℕ) (at count n p left : ℕ) (o : List ℕ) (q : ℕ) → at ≤ q → q + 1 ≡ p → DigitsFrom e at count n p left o → DigitsFrom e at count n q (left / 16) (set o q (hex_byte (left % 16)))
unfolding digits
digits_next e at count n p left o q h k d =
    let b = hex_byte (left % 16) in
    let more : p - at ≡ suc (q - at) = omega arith in
    record {
      from = h;
      written = b ∷ d.written;
      put = put_before e q b d.written (at + count) o (subst (λ (j : ℕ). Put e j d.written (at + count) o) (sym k) d.put);
      rest = d.rest ∙ ap (λ (j : ℕ). digits j left ++ d.written) more ∙ append_assoc (digits (q - at) (left / 16)) (b ∷ []) d.written;
    }

pub digits_last : (e : List ℕ) (at count n p left : ℕ) (o : List ℕ) → p ≤ at → DigitsFrom e at count n p left o → Put e at (digits count n) (at + count) o
unfolding digits
digits_last e at count n p left o h d =
    let f = d.from in
    let none : p - at ≡ 0 = omega arith in
    let from : p ≡ at = omega arith in
    let all : digits count n ≡ d.written = d.rest ∙ ap (λ (j : ℕ). digits j left ++ d.written) none in
    subst (λ (t : List ℕ). Put e at t (at + count) o) (sym all) (subst (λ (j : ℕ). Put e j d.written (at + count) o) from d.put)

pub width_le : (n : ℕ) → width n ≤ 6
width_le n = grind (arith, nat_tests)

-- how many bytes words have, as a sum
pub words_bytes : (ws : List ℕ) → sum_by (λ n. 1 + width n) ws ≡ length (words_text ws)
unfolding words_text
words_bytes ws = sym (is_sum_by (λ x. length (words_text x)) (λ n. 1 + width n) refl (λ w x. let l = length-append (word_text w) (words_text x) in let n = length_word w in omega arith) ws)

pub words_bytes_le : (ws : List ℕ) → sum_by (λ n. 1 + width n) ws ≤ 7 * length ws
words_bytes_le [] = omega arith
words_bytes_le (w ∷ ws) = let n = width_le w in let r = words_bytes_le ws in let s = sum_by-cons (λ n. 1 + width n) w ws in omega arith

-- ---- what a writer wrote
pub wrote_none : (v : Writer) → Room v 0 → Wrote v [] v
wrote_none v h = record { same = refl; put = put_none v.out.now v.at (omega arith) }

pub wrote_more : (v w x : Writer) (t u : List ℕ) → Wrote v t w → Wrote w u x → Wrote v (t ++ u) x
wrote_more v w x t u p q = record { same = q.same ∙ p.same; put = put_more v.out.now v.at t w.at w.out.now u x.at x.out.now p.put q.put }

-- and how much room is left then
pub wrote_room : (v w : Writer) (t : List ℕ) (n : ℕ) → Wrote v t w → Room v (length t + n) → Room w n
wrote_room v w t n p h =
    let q = p.put.place in
    let l = put_length v.out.now v.at t w.at w.out.now p.put in
    omega arith

-- the four writes of a line
pub line_wrote : (v w x y z : Writer) (a b : ℕ) (ws : List ℕ) → Wrote v (a ∷ []) w → Wrote w (b ∷ []) x → Wrote x (words_text ws) y → Wrote y (10 ∷ []) z → Wrote v (line_text a b ws) z
unfolding line_text
line_wrote v w x y z a b ws p q r s = wrote_more v w z (a ∷ []) (b ∷ (words_text ws ++ (10 ∷ []))) p (wrote_more w x z (b ∷ []) (words_text ws ++ (10 ∷ [])) q (wrote_more x y z (words_text ws) (10 ∷ []) r s))
