-- Rows asked one by one, in any form.
use Rattle.std.proofs.Common.{◌≡◌, ℕ, ◌+◌, ◌<◌, ◌≤◌, List, [], ◌∷◌, ◌++◌, map, length, get_or, take, drop, set, min, suc, inl, inr, sym, refl, ap, ◌∙◌, arith}
use Rattle.std.proofs.lemmas.List.{append_assoc, append-nil, at_drop_more, at_drop_all, take_all, take_more_set, take-append-drop, drop-drop, drop-set-lt, length-take-le, length-map, length-take, map-append, map-id, drop_all}
use Rattle.std.proofs.lemmas.Simd.{map-map}
use Rattle.std.proofs.Math.Seq.{take-append_seam}
use Rattle.std.proofs.lemmas.Bool.{cases_lt}
use Rattle.requests.specs.Sessions.{Asked, asked, first_asked, Gave, Reply, Session, over, play, plays, replies, reply_of, told_reply}
use Rattle.requests.specs.declared.request.Answer.{Answer}
use Rattle.requests.specs.declared.request.Request.{Request}

-- as many rows as there are, and no more than n
pub front_is : {A : Type 0} (rs : List A) (n k : ℕ) → k ≡ min (length rs) n → take k rs ≡ take n rs
front_is rs n k e = elim (cases_lt n (length rs)) [
  | inl b ↦ let z : k ≡ n = omega arith in ap (λ x. take x rs) z
  | inr b ↦ take_all k rs (omega arith) ∙ sym (take_all n rs b)
]

-- answers to the first rows, which are kept, what is still to be given, and the answers past these as they were
pub record Given {K : Type 0} (keeps : Answer → K) (more all : List Reply) (i : ℕ) (before now : List K) : Type 0 where
  pub answers : List Answer
  pub say : map told_reply answers ++ more ≡ all
  pub kept : take i now ≡ map keeps answers
  pub rest : drop i now ≡ drop i before

module _ {Q : Type 0} (asks : Q → Asked) where
  -- what is left of the rows, asked from here: where that ends, and what it gives
  abbrev pub ends : Session → List Q → Session
  ends t rs = plays t (map asks rs)

  abbrev pub gives : Session → List Q → List Reply
  gives t rs = replies t (map asks rs)

  module _ (t u : Session) (rs : List Q) (i : ℕ) (row : Q) (h : i < length rs) (e : u ≡ play t (asks (get_or rs i row))) where
    pub turn : (all : Session) → ends t (drop i rs) ≡ all → ends u (drop (i + 1) rs) ≡ all
    turn all k = ap (λ (x : Session). ends x (drop (i + 1) rs)) e ∙ sym (at_drop_more (ends t) rs i row h) ∙ k

    pub kept_more : {K : Type 0} (keeps : Answer → K) (all : List Reply) (ys es : List K) (a : Answer) → i < length ys →
        told_reply a ≡ reply_of t.bench t.held (asks (get_or rs i row)) →
        Given keeps (gives t (drop i rs)) all i es ys → Given keeps (gives u (drop (i + 1) rs)) all (i + 1) es (set ys i (keeps a))
    kept_more {K = K} keeps all ys es a l f g = record {
      answers = g.answers ++ (a ∷ []);
      say =
          ap (λ (x : List Reply). x ++ gives u (drop (i + 1) rs)) (map-append told_reply g.answers (a ∷ []))
          ∙ append_assoc (map told_reply g.answers) (told_reply a ∷ []) (gives u (drop (i + 1) rs))
          ∙ ap (λ (r : Reply). map told_reply g.answers ++ (r ∷ gives u (drop (i + 1) rs))) f
          ∙ ap (λ (x : Session). map told_reply g.answers ++ (reply_of t.bench t.held (asks (get_or rs i row)) ∷ gives x (drop (i + 1) rs))) e
          ∙ ap (λ (x : List Reply). map told_reply g.answers ++ x) (sym (at_drop_more (gives t) rs i row h)) ∙ g.say;
      kept = take_more_set ys i (keeps a) l ∙ ap (λ (x : List K). x ++ (keeps a ∷ [])) g.kept ∙ sym (map-append keeps g.answers (a ∷ []));
      rest = drop-set-lt (i + 1) ys i (keeps a) (omega arith) ∙ sym (drop-drop 1 i ys) ∙ ap (λ (x : List K). drop 1 x) g.rest ∙ drop-drop 1 i es;
    }

  -- the whole list
  pub ended : (t all : Session) (rs : List Q) (i : ℕ) → length rs ≤ i → ends t (drop i rs) ≡ all → t ≡ all
  ended t all rs i h k = sym (at_drop_all (ends t) rs i h) ∙ k

  pub given : {K : Type 0} (keeps : Answer → K) (t : Session) (rs : List Q) (all : List Reply) (ys es : List K) (i : ℕ) → length rs ≤ i → i ≤ length ys →
      Given keeps (gives t (drop i rs)) all i es ys → Gave keeps all es ys
  given {K = K} keeps t rs all ys es i h l g =
      let long : length (map keeps g.answers) ≡ i = ap length (sym g.kept) ∙ length-take-le i ys l in record {
        answers = g.answers;
        say = sym (append-nil (map told_reply g.answers)) ∙ ap (λ (x : List Reply). map told_reply g.answers ++ x) (sym (at_drop_all (gives t) rs i h)) ∙ g.say;
        kept = sym (take-append-drop i ys) ∙ ap (λ (x : List K). x ++ drop i ys) g.kept ∙ ap (λ (x : List K). map keeps g.answers ++ x) g.rest
            ∙ ap (λ (n : ℕ). map keeps g.answers ++ drop n es) (sym long);
      }

-- answers that are kept as they are, read again: as many as there were requests, or all
pub gave_plain : {Q : Type 0} (rs : List Q) (all : List Reply) (before after : List Answer) → length all ≡ min (length rs) (length before) →
    Gave (λ a. a) all before after → map told_reply (take (length rs) after) ≡ all
gave_plain rs all before after e g =
    let l : length g.answers ≡ length all = sym (length-map g.answers told_reply) ∙ ap length g.say in
    let is : after ≡ over g.answers before = g.kept ∙ ap (λ x. over x before) (map-id g.answers) in
    let front : take (length rs) (over g.answers before) ≡ g.answers = elim (cases_lt (length before) (length rs)) [
      | inl b ↦
          let z : drop (length g.answers) before ≡ [] = drop_all (length g.answers) before (omega arith) in
          ap (λ x. take (length rs) (g.answers ++ x)) z ∙ ap (take (length rs)) (append-nil g.answers) ∙ take_all (length rs) g.answers (omega arith)
      | inr b ↦ let z : length rs ≡ length g.answers = omega arith in ap (λ x. take x (over g.answers before)) z ∙ take-append_seam g.answers (drop (length g.answers) before)
    ] in
    ap (λ x. map told_reply (take (length rs) x)) is ∙ ap (map told_reply) front ∙ g.say

pub length_replies : (t : Session) (rs : List Asked) → length (replies t rs) ≡ length rs
length_replies t [] = refl
length_replies t (a ∷ rs) = ap suc (length_replies (play t a) rs)

pub gave_answers : (t : Session) (rs : List Request) (before after : List Answer) → Gave (λ a. a) (replies t (first_asked asked (length before) rs)) before after →
    map told_reply (take (length rs) after) ≡ replies t (first_asked asked (length before) rs)
gave_answers t rs before after g =
    let l = length_replies t (first_asked asked (length before) rs) in
    let m = length-map (take (length before) rs) asked in
    let k = length-take (length before) rs in
    gave_plain rs (replies t (first_asked asked (length before) rs)) before after (omega arith) g

-- and answers that are kept as something that their reply shows
pub gave_shown : {K : Type 0} (shown : Reply → K) (all : List Reply) (before after : List K) → Gave (λ a. shown (told_reply a)) all before after →
    after ≡ over (map shown all) before
gave_shown shown all before after g = g.kept ∙ ap (λ x. over x before) (sym (map-map shown told_reply g.answers) ∙ ap (map shown) g.say)
