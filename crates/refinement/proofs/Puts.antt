-- Writes to a table, where each slot has one word and one owner.
use Rattle.std.proofs.Common.{◌≡◌, ℕ, zero, suc, ◌+◌, ◌<◌, ◌≤◌, ◌⊎◌, List, [], ◌∷◌, length, get_or, set, sym, refl, ap, ◌∙◌, inl, inr, arith}
use Rattle.std.specs.List.{ContainsAt as Has, AllByRecursion}
use Rattle.std.proofs.lemmas.List.{length-set, get_or-set_same, get_or-set_other, set-get_or}
use Rattle.std.proofs.ByRecursion.{All-get_or}
use Rattle.std.proofs.lemmas.Bool.{cases_eq}
use Rattle.refinement.specs.Tasks.{Names, put, from, Hold, Empty}

pub length_put : (ws : List (ℕ × ℕ)) (t : List ℕ) → length (put ws t) ≡ length t
unfolding put
length_put [] t = refl
length_put (w ∷ ws) t = length_put ws (set t w.0 w.1) ∙ length-set t w.0 w.1

-- words that stand are written again to no effect
pub put_again : (ws : List (ℕ × ℕ)) (t : List ℕ) → Hold t ws → put ws t ≡ t
unfolding put
put_again [] t h = refl
put_again (w ∷ ws) t h =
    let e : set t w.0 w.1 ≡ t = ap (set t w.0) (sym h.0) ∙ set-get_or t w.0 0 in
    rw e (put_again ws t h.1)

put_leaves : (ws : List (ℕ × ℕ)) (t : List ℕ) (s : ℕ) → (Names s ws → ⊥) → get_or (put ws t) s 0 ≡ get_or t s 0
unfolding put
put_leaves [] t s h = refl
put_leaves (w ∷ ws) t s h =
    put_leaves ws (set t w.0 w.1) s (λ n. h (inr n)) ∙ get_or-set_other t w.0 s w.1 0 (λ e. h (inl e))

-- a table after the writes of some tasks
unfoldable pub puts : {X : Type 0} → (X → List (ℕ × ℕ)) → List X → List ℕ → List ℕ
puts f [] t = t
puts f (x ∷ xs) t = puts f xs (put (f x) t)

pub length_puts : {X : Type 0} (f : X → List (ℕ × ℕ)) (xs : List X) (t : List ℕ) → length (puts f xs t) ≡ length t
unfolding puts
length_puts f [] t = refl
length_puts f (x ∷ xs) t = length_puts f xs (put (f x) t) ∙ length_put (f x) t

pub has_cases : {X : Type 0} (y : X) (ys : List X) (x : X) → Has (y ∷ ys) x → (y ≡ x) ⊎ Has ys x
has_cases y ys x h = go h.0 h.1 h.2
  where
    go : (k : ℕ) → k < length (y ∷ ys) → ((d : _) → get_or (y ∷ ys) k d ≡ x) → (y ≡ x) ⊎ Has ys x
    go zero l e = inl (e y)
    go (suc k) l e = inr (k, omega arith, e)

pub puts_leave : {X : Type 0} (f : X → List (ℕ × ℕ)) (xs : List X) (t : List ℕ) (s : ℕ) → ((x : X) → Has xs x → Names s (f x) → ⊥) → get_or (puts f xs t) s 0 ≡ get_or t s 0
unfolding puts
puts_leave f [] t s h = refl
puts_leave f (x ∷ xs) t s h =
    puts_leave f xs (put (f x) t) s (λ y k. h y (suc k.0, omega (arith, k.1), k.2))
    ∙ put_leaves (f x) t s (h x (0, omega arith, λ d. refl))

-- each slot below n has a word and an owner
module _ (word owner : ℕ → ℕ) (n : ℕ) where
  -- the writes of the owner k
  abbrev pub Agree : ℕ → List (ℕ × ℕ) → Type 0
  Agree k ws = AllByRecursion (λ w. (w.1 ≡ word w.0) × (w.0 < n) × (owner w.0 ≡ k)) ws

  pub names_owner : (k : ℕ) (ws : List (ℕ × ℕ)) → Agree k ws → (s : ℕ) → Names s ws → owner s ≡ k
  names_owner k [] a s h = absurd h
  names_owner k (w ∷ ws) a s h = elim h [ inl e ↦ ap owner e ∙ a.0.2 | inr e ↦ names_owner k ws a.1 s e ]

  put_keeps : (k : ℕ) (ws : List (ℕ × ℕ)) (t : List ℕ) (s : ℕ) → Agree k ws → s < length t → get_or t s 0 ≡ word s → get_or (put ws t) s 0 ≡ word s
  unfolding put
  put_keeps k [] t s a l e = e
  put_keeps k (w ∷ ws) t s a l e =
      let i : s < length (set t w.0 w.1) = simp length-set l in
      put_keeps k ws (set t w.0 w.1) s a.1 i
      (elim (cases_eq s w.0) [
        | inl q ↦ rw (← q, get_or-set_same) (a.0.0 ∙ ap word (sym q))
        | inr q ↦ get_or-set_other t w.0 s w.1 0 q ∙ e
      ])

  put_makes : (k : ℕ) (ws : List (ℕ × ℕ)) (t : List ℕ) (s : ℕ) → Agree k ws → s < length t → Names s ws → get_or (put ws t) s 0 ≡ word s
  unfolding put
  put_makes k [] t s a l h = absurd h
  put_makes k (w ∷ ws) t s a l h =
      let i : s < length (set t w.0 w.1) = simp length-set l in
      elim h [
        | inl q ↦ put_keeps k ws (set t w.0 w.1) s a.1 i (rw (← q, get_or-set_same) (a.0.0 ∙ ap word (sym q)))
        | inr q ↦ put_makes k ws (set t w.0 w.1) s a.1 i q
      ]

  module _ (X : Type 0) (number : X → ℕ) (f : X → List (ℕ × ℕ)) where
    puts_keep : (xs : List X) (t : List ℕ) (s : ℕ) → AllByRecursion (λ x. Agree (number x) (f x)) xs → s < length t → get_or t s 0 ≡ word s → get_or (puts f xs t) s 0 ≡ word s
    unfolding puts
    puts_keep [] t s a l e = e
    puts_keep (x ∷ xs) t s a l e =
        let i : s < length (put (f x) t) = simp length_put l in
        puts_keep xs (put (f x) t) s a.1 i (put_keeps (number x) (f x) t s a.0 l e)

    pub puts_make : (xs : List X) (t : List ℕ) (s : ℕ) (x : X) → AllByRecursion (λ x. Agree (number x) (f x)) xs → s < length t → Has xs x → Names s (f x) → get_or (puts f xs t) s 0 ≡ word s
    unfolding puts
    puts_make [] t s x a l h k = absurd (omega (arith, h.1))
    puts_make (y ∷ xs) t s x a l h k =
        let i : s < length (put (f y) t) = simp length_put l in
        elim (has_cases y xs x h) [
          | inl q ↦ puts_keep xs (put (f y) t) s a.1 i (put_makes (number y) (f y) t s a.0 l (rw q k))
          | inr q ↦ puts_make xs (put (f y) t) s x a.1 i q k
        ]

  -- what is known of every slot that a list of writes names
  pub hold : (k : ℕ) (ws : List (ℕ × ℕ)) (t : List ℕ) → Agree k ws → ((s : ℕ) → s < n → Names s ws → get_or t s 0 ≡ word s) → Hold t ws
  hold k [] t a h = tt
  hold k (w ∷ ws) t a h = (h w.0 a.0.1 (inl refl) ∙ sym a.0.0, hold k ws t a.1 (λ s l i. h s l (inr i)))

  pub empty : (k : ℕ) (ws : List (ℕ × ℕ)) (t : List ℕ) → Agree k ws → ((s : ℕ) → s < n → Names s ws → get_or t s 0 ≡ 0) → Empty t ws
  empty k [] t a h = tt
  empty k (w ∷ ws) t a h = (h w.0 a.0.1 (inl refl), empty k ws t a.1 (λ s l i. h s l (inr i)))

  -- words side by side
  pub from_agree : (k a i : ℕ) (xs : List ℕ) → a + (i + length xs) ≤ n → ((j : ℕ) → j < length xs → (get_or xs j 0 ≡ word (a + (i + j))) × (owner (a + (i + j)) ≡ k)) → Agree k (from a i xs)
  from_agree k a i [] l h = tt
  from_agree k a i (x ∷ xs) l h =
      let z : a + (i + 0) ≡ a + i = omega arith in
      let r = h 0 (omega arith) in (
        (r.0 ∙ ap word z, omega arith, ap owner (sym z) ∙ r.1),
        from_agree k a (suc i) xs (omega arith)
            (λ j b. let e : a + (i + suc j) ≡ a + (suc i + j) = omega arith in let r = h (suc j) (omega arith) in (r.0 ∙ ap word e, ap owner (sym e) ∙ r.1)),
      )

pub from_names : (s a k : ℕ) (xs : List ℕ) (j : ℕ) → j < length xs → s ≡ a + (k + j) → Names s (from a k xs)
from_names s a k [] j l e = absurd (omega arith)
from_names s a k (x ∷ xs) zero l e = inl (omega arith)
from_names s a k (x ∷ xs) (suc j) l e = inr (from_names s a (suc k) xs j (omega arith) (omega arith))

pub from_holds : (t : List ℕ) (a k : ℕ) (xs : List ℕ) → Hold t (from a k xs) → (j s : ℕ) → j < length xs → s ≡ a + (k + j) → get_or t s 0 ≡ get_or xs j 0
from_holds t a k [] h j s l e = absurd (omega arith)
from_holds t a k (x ∷ xs) h zero s l e = let z : s ≡ a + k = omega arith in rw z h.0
from_holds t a k (x ∷ xs) h (suc j) s l e = from_holds t a (suc k) xs h.1 j s (omega arith) (omega arith)

-- one write of a list that holds
abbrev pub slot_of : List (ℕ × ℕ) → ℕ → ℕ
slot_of ws i = (get_or ws i (0, 0)).0

abbrev pub word_of : List (ℕ × ℕ) → ℕ → ℕ
word_of ws i = (get_or ws i (0, 0)).1

pub write_holds : (t : List ℕ) (ws : List (ℕ × ℕ)) → Hold t ws → (i s : ℕ) → i < length ws → s ≡ slot_of ws i → get_or t s 0 ≡ word_of ws i
write_holds t ws h i s l e = ap (λ x. get_or t x 0) e ∙ All-get_or (λ (w : ℕ × ℕ). get_or t w.0 0 ≡ w.1) ws i (0, 0) l h
