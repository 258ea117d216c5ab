-- A call is refused for its first cause at its first place, and is carried out where it has none.
use Rattle.std.proofs.Common.{◌≡◌, ℕ, suc, ◌+◌, ◌*◌, ◌<◌, ◌≤◌, Bool, true, false, cond, not, ◌&&◌, ◌||◌, eqb, ltb, leb, ◌⊎◌, List, get_or, Some, None, Option, sym, refl, ap, ◌∙◌, subst, inl, inr, arith}
use Rattle.std.proofs.lemmas.Bool.{cases_Bool, cases_lt, cases_order, both_ways, and_from, cond-true, cond-false, not-true, not_from_false, ltb-true, lt-ltb, leb-true, le-leb, eqb-true, eqb-false, ne_eqb}
use Rattle.mesh.specs.Causes.{Cause, FirstCause, judge, mesh_of}
use Rattle.mesh.specs.Count.{least}
use Rattle.mesh.specs.Mesh.{Mesh, most_quads}
use Rattle.mesh.specs.Refusals.{Verdict, fine, declined, number_of, place_of}
use Rattle.mesh.specs.declared.fault.Fault.{Fault}
use Rattle.lines.specs.Reading.{Room, Reading, accepted, refused, reading}
use Rattle.refinement.proofs.Causes.{declined_not_fine, same_number, same_place, number_below, no_cause, causes_tried_in_order, judges}
use Rattle.refinement.proofs.Totals.{least_fails, least_passes}
use Rattle.chain.specs.Calls.{Call, load, load_text, begin, quad, point, finish, withdraw, Work, State, words_to_load, words_to_begin, cause, and_next, missing, quads_of, points_of, ran_of, text_refusal, refusal}
use Rattle.chain.specs.Causes.{NeedsFree, to_load, to_begin, NeedsWork, for_quad, for_point, to_finish, to_withdraw, NeedsStanding, for_begin, to_go_on, Bears, by_finish, by_withdraw, CallCause, unlawful, in_work, none_standing, too_large, few_to_load, few_to_begin, none_in_work, no_such_quad, no_such_point, other_slip, not_run, unread, read, FirstCallCause, CallsRefusedInOrder}
use Rattle.chain.specs.Clauses.{load_of}

-- ---- the tests of causes 11 to 18, for all calls alike

-- which of them a call is put to
abbrev asked : Call → ℕ → Bool
asked (load cs fs ms ss) n = eqb n 11 || eqb n 14
asked (load_text bytes room) n = false
asked begin n = leb 11 n && leb n 14
asked (quad q) n = eqb n 12 || (eqb n 15 || eqb n 16)
asked (point v) n = eqb n 12 || (eqb n 15 || eqb n 16)
asked (finish slip) n = eqb n 12 || (eqb n 15 || (eqb n 17 || eqb n 18))
asked (withdraw slip) n = eqb n 12 || (eqb n 15 || eqb n 17)

-- the number that a call is given, the count that it is to be below, and the words that the call needs; 0 where it has none
record Terms : Type 0 where
  number : ℕ
  count : ℕ
  needed : ℕ

abbrev terms : State → Call → Terms
terms s (load cs fs ms ss) = record { number = 0; count = 0; needed = words_to_load (mesh_of cs fs ms ss).quads (mesh_of cs fs ms ss).points }
terms s (load_text bytes room) = record { number = 0; count = 0; needed = 0 }
terms s begin = record { number = 0; count = 0; needed = words_to_begin (quads_of s.standing) (points_of s.standing) }
terms s (quad q) = record { number = q; count = quads_of s.standing; needed = 0 }
terms s (point v) = record { number = v; count = points_of s.standing; needed = 0 }
terms s (finish slip) = record { number = slip; count = 0; needed = 0 }
terms s (withdraw slip) = record { number = slip; count = 0; needed = 0 }

-- the tasks, and the lowest that has not run
abbrev tasks : State → ℕ
tasks s = quads_of s.standing + points_of s.standing

abbrev lowest : State → ℕ
lowest s = least (λ i. eqb (get_or (ran_of s.work) i 0) 0) (tasks s)

abbrev passed : State → Call → ℕ → Bool
passed s c n =
    cond (eqb n 11) (not (missing s.work))
    (cond (eqb n 12) (missing s.standing)
    (cond (eqb n 13) (ltb most_quads (4 * quads_of s.standing))
    (cond (eqb n 14) (ltb s.words (terms s c).needed)
    (cond (eqb n 15) (missing s.work)
    (cond (eqb n 16) (leb (terms s c).count (terms s c).number)
    (cond (eqb n 17) (not (eqb (terms s c).number s.mark))
    (ltb (lowest s) (tasks s))))))))

abbrev test : State → Call → ℕ → Bool
test s c n = asked c n && passed s c n

abbrev place : State → Call → ℕ → ℕ
place s c n = cond (eqb n 16) (terms s c).number (cond (eqb n 18) (lowest s) 0)

abbrev tests : State → Call → Verdict
tests s c =
    cause 11 (place s c 11) (test s c 11) (cause 12 (place s c 12) (test s c 12) (cause 13 (place s c 13) (test s c 13) (cause 14 (place s c 14) (test s c 14)
    (cause 15 (place s c 15) (test s c 15) (cause 16 (place s c 16) (test s c 16) (cause 17 (place s c 17) (test s c 17) (cause 18 (place s c 18) (test s c 18) fine)))))))

-- ---- a cause passes its test

free_asked : {c : Call} → NeedsFree c → asked c 11 ≡ true
free_asked (to_load cs fs ms ss) = refl
free_asked to_begin = refl

work_asked : {c : Call} → NeedsWork c → (asked c 12 ≡ true) × (asked c 15 ≡ true)
work_asked (for_quad q) = (refl, refl)
work_asked (for_point v) = (refl, refl)
work_asked (to_finish slip) = (refl, refl)
work_asked (to_withdraw slip) = (refl, refl)

standing_asked : {c : Call} → NeedsStanding c → asked c 12 ≡ true
standing_asked for_begin = refl
standing_asked (to_go_on d) = (work_asked d).0

slip_asked : (s : State) {c : Call} {slip : ℕ} → Bears c slip → (asked c 17 ≡ true) × ((terms s c).number ≡ slip)
slip_asked s (by_finish slip) = (refl, refl)
slip_asked s (by_withdraw slip) = (refl, refl)

-- a cause of the tables, or of a text: none of these tests
abbrev Brought : State → Call → ℕ → ℕ → Type 0
Brought s (load cs fs ms ss) k p = Cause (mesh_of cs fs ms ss) k p
Brought s (load_text bytes room) k p = CallCause s (load_text bytes room) k p
Brought s begin k p = ⊥
Brought s (quad q) k p = ⊥
Brought s (point v) k p = ⊥
Brought s (finish slip) k p = ⊥
Brought s (withdraw slip) k p = ⊥

record Tested (s : State) (c : Call) (k p : ℕ) : Type 0 where
  from : 11 ≤ k
  to : k < 19
  passes : test s c k ≡ true
  not_lower : place s c k ≤ p

lowest_le : (s : State) (p : ℕ) (w : Work) → s.work ≡ Some w → get_or w.ran p 0 ≡ 0 → lowest s ≤ p
lowest_le s p w f z = elim (cases_lt p (lowest s)) [
  | inl l ↦ absurd (eqb-false _ _ (least_fails (λ i. eqb (get_or (ran_of s.work) i 0) 0) (tasks s) p l) (ap (λ o. get_or (ran_of o) p 0) f ∙ z))
  | inr l ↦ l
]

tested : (s : State) {c : Call} {k p : ℕ} → CallCause s c k p → Brought s c k p ⊎ Tested s c k p
tested s (unlawful x) = inl x
tested s {c} (in_work w d e) =
    inr (record { from = omega arith; to = omega arith; passes = and_from (asked c 11) _ (free_asked d) (ap (λ o. not (missing o)) e); not_lower = omega arith })
tested s {c} (none_standing d e) =
    inr (record { from = omega arith; to = omega arith; passes = and_from (asked c 12) _ (standing_asked d) (ap missing e); not_lower = omega arith })
tested s (too_large m e h) =
    let z = ap quads_of e in
    inr (record { from = omega arith; to = omega arith; passes = lt-ltb most_quads (4 * quads_of s.standing) (omega arith); not_lower = omega arith })
tested s (few_to_load h) = inr (record { from = omega arith; to = omega arith; passes = lt-ltb _ _ h; not_lower = omega arith })
tested s (few_to_begin m e h) =
    let y = ap quads_of e in
    let z = ap points_of e in
    inr (record { from = omega arith; to = omega arith; passes = lt-ltb s.words (terms s begin).needed (omega arith); not_lower = omega arith })
tested s {c} (none_in_work d e) =
    inr (record { from = omega arith; to = omega arith; passes = and_from (asked c 15) _ (work_asked d).1 (ap missing e); not_lower = omega arith })
tested s (no_such_quad {q} m e h) =
    let z = ap quads_of e in
    inr (record { from = omega arith; to = omega arith; passes = le-leb (quads_of s.standing) q (omega arith); not_lower = omega arith })
tested s (no_such_point {v} m e h) =
    let z = ap points_of e in
    inr (record { from = omega arith; to = omega arith; passes = le-leb (points_of s.standing) v (omega arith); not_lower = omega arith })
tested s {c} (other_slip slip b h) =
    let a = slip_asked s b in
    let n = ne_eqb (terms s c).number s.mark (λ e. h (sym a.1 ∙ e)) in
    inr (record { from = omega arith; to = omega arith; passes = and_from (asked c 17) _ a.0 (not_from_false _ n); not_lower = omega arith })
tested s (not_run {slip} {p} m w e f h z) =
    let l = lowest_le s p w f z in
    let x = ap quads_of e in
    let y = ap points_of e in
    inr (record { from = omega arith; to = omega arith; passes = lt-ltb (lowest s) (tasks s) (omega arith); not_lower = l })
tested s (unread f e) = inl (unread f e)
tested s (read m e x) = inl (read m e x)

-- ---- a verdict is right: it is of the first cause, or there is none

record Right (s : State) (c : Call) (v : Verdict) : Type 0 where
  none : v ≡ fine → (k p : ℕ) → CallCause s c k p → ⊥
  first : (k p : ℕ) → v ≡ declined k p → FirstCallCause s c k p

-- no cause below n holds
abbrev Clear : State → Call → ℕ → Type 0
Clear s c n = (j i : ℕ) → j < n → CallCause s c j i → ⊥

either_way : {A : Type 0} (o : Option A) → (o ≡ None) ⊎ ((x : A) × (o ≡ Some x))
either_way None = inl refl
either_way (Some x) = inr (x, refl)

there : {A : Type 0} (o : Option A) → not (missing o) ≡ true → (x : A) × (o ≡ Some x)
there None t = absurd (both_ways false refl t)
there (Some x) t = (x, refl)

empty : {A : Type 0} (o : Option A) → missing o ≡ true → o ≡ None
empty None t = refl
empty (Some x) t = absurd (both_ways false refl t)

no : {A : Type 0} → false ≡ true → A
no t = absurd (both_ways false refl t)

-- a test that the call is not put to
unasked : {A B : Type 0} → B → false ≡ true → A
unasked b t = no t

right_declined : (s : State) (c : Call) (k p : ℕ) → FirstCallCause s c k p → Right s c (declined k p)
right_declined s c k p f = record {
  none = λ e. absurd (declined_not_fine k p e);
  first = λ j q e. rw (same_place k p j q e) at (rw (same_number k p j q e) at f);
}

-- where a test finds a cause, given that none before it holds
abbrev Finds : State → Call → ℕ → Type 0
Finds s c n = Clear s c n → test s c n ≡ true → CallCause s c n (place s c n)

module _ (s : State) (c : Call) (bare : (k p : ℕ) → Brought s c k p → ⊥) where
  is_tested : (k p : ℕ) → CallCause s c k p → Tested s c k p
  is_tested k p x = elim (tested s x) [ inl b ↦ absurd (bare k p b) | inr t ↦ t ]

  clear_more : (n : ℕ) → Clear s c n → test s c n ≡ false → Clear s c (suc n)
  clear_more n clear f j i l x = elim (cases_lt j n) [
    | inl h ↦ clear j i h x
    | inr h ↦ let e : j ≡ n = omega arith in both_ways (test s c n) f (is_tested n i (rw e at x)).passes
  ]

  step : (n : ℕ) (later : Verdict) → Finds s c n → Clear s c n → (Clear s c (suc n) → Right s c later) → Right s c (cause n (place s c n) (test s c n) later)
  step n later find clear more = elim (cases_Bool (test s c n)) [
    | inl t ↦ subst (Right s c) (sym (cond-true (test s c n) (declined n (place s c n)) later t)) (right_declined s c n (place s c n) (record {
      holds = find clear t;
      no_lower_place = λ i h x. let r = (is_tested n i x).not_lower in absurd (omega arith);
      no_lower_cause = clear;
    }))
    | inr f ↦ subst (Right s c) (sym (cond-false (test s c n) (declined n (place s c n)) later f)) (more (clear_more n clear f))
  ]

  all_tests : Finds s c 11 → Finds s c 12 → Finds s c 13 → Finds s c 14 → Finds s c 15 → Finds s c 16 → Finds s c 17 → Finds s c 18 → Right s c (tests s c)
  all_tests f11 f12 f13 f14 f15 f16 f17 f18 =
      step 11 _ f11 (λ j i l x. let r = (is_tested j i x).from in absurd (omega arith))
      (λ c12. step 12 _ f12 c12 (λ c13. step 13 _ f13 c13 (λ c14. step 14 _ f14 c14 (λ c15. step 15 _ f15 c15
      (λ c16. step 16 _ f16 c16 (λ c17. step 17 _ f17 c17 (λ c18. step 18 fine f18 c18 (λ c19. record {
        none = λ e k p x. c19 k p (is_tested k p x).to x;
        first = λ k p e. absurd (declined_not_fine k p (sym e));
      }))))))))

module _ (s : State) (c : Call) where
  finds_work : NeedsFree c → not (missing s.work) ≡ true → CallCause s c 11 0
  finds_work d t = let w = there s.work t in in_work w.0 d w.1

  -- what stands and what is in work, where the causes 12 and 15 do not hold
  stood : (n : ℕ) → 12 < n → NeedsStanding c → Clear s c n → (m : Mesh) × (s.standing ≡ Some m)
  stood n l d clear = elim (either_way s.standing) [ inl e ↦ absurd (clear 12 0 l (none_standing d e)) | inr m ↦ m ]

  wrought : (n : ℕ) → 15 < n → NeedsWork c → Clear s c n → (w : Work) × (s.work ≡ Some w)
  wrought n l d clear = elim (either_way s.work) [ inl e ↦ absurd (clear 15 0 l (none_in_work d e)) | inr w ↦ w ]

  other : (slip : ℕ) → Bears c slip → not (eqb slip s.mark) ≡ true → CallCause s c 17 0
  other slip b t = other_slip slip b (eqb-false slip s.mark (not-true _ t))

module _ (s : State) where
  right_begin : Right s begin (refusal s begin)
  right_begin = all_tests s begin (λ k p b. b)
      (λ clear t. finds_work s begin to_begin t)
      (λ clear t. none_standing for_begin (empty s.standing t))
      (λ clear t.
      let m = stood s begin 13 (omega arith) for_begin clear in
      let z = ap quads_of m.1 in
      let l = ltb-true most_quads (4 * quads_of s.standing) t in
      too_large m.0 m.1 (omega arith))
      (λ clear t.
      let m = stood s begin 14 (omega arith) for_begin clear in
      let y = ap quads_of m.1 in
      let z = ap points_of m.1 in
      let l = ltb-true s.words (terms s begin).needed t in
      few_to_begin m.0 m.1 (omega arith))
      unasked unasked unasked unasked

  right_quad : (q : ℕ) → Right s (quad q) (refusal s (quad q))
  right_quad q = all_tests s (quad q) (λ k p b. b)
      unasked
      (λ clear t. none_standing (to_go_on (for_quad q)) (empty s.standing t))
      unasked unasked
      (λ clear t. none_in_work (for_quad q) (empty s.work t))
      (λ clear t.
      let m = stood s (quad q) 16 (omega arith) (to_go_on (for_quad q)) clear in
      let z = ap quads_of m.1 in
      let l = leb-true (quads_of s.standing) q t in
      no_such_quad m.0 m.1 (omega arith))
      unasked unasked

  right_point : (v : ℕ) → Right s (point v) (refusal s (point v))
  right_point v = all_tests s (point v) (λ k p b. b)
      unasked
      (λ clear t. none_standing (to_go_on (for_point v)) (empty s.standing t))
      unasked unasked
      (λ clear t. none_in_work (for_point v) (empty s.work t))
      (λ clear t.
      let m = stood s (point v) 16 (omega arith) (to_go_on (for_point v)) clear in
      let z = ap points_of m.1 in
      let l = leb-true (points_of s.standing) v t in
      no_such_point m.0 m.1 (omega arith))
      unasked unasked

  right_withdraw : (slip : ℕ) → Right s (withdraw slip) (refusal s (withdraw slip))
  right_withdraw slip = all_tests s (withdraw slip) (λ k p b. b)
      unasked
      (λ clear t. none_standing (to_go_on (to_withdraw slip)) (empty s.standing t))
      unasked unasked
      (λ clear t. none_in_work (to_withdraw slip) (empty s.work t))
      unasked
      (λ clear t. other s (withdraw slip) slip (by_withdraw slip) t)
      unasked

  finds_task : (slip : ℕ) → Clear s (finish slip) 18 → ltb (lowest s) (tasks s) ≡ true → CallCause s (finish slip) 18 (lowest s)
  finds_task slip clear t =
      let m = stood s (finish slip) 18 (omega arith) (to_go_on (to_finish slip)) clear in
      let w = wrought s (finish slip) 18 (omega arith) (to_finish slip) clear in
      let y = ap quads_of m.1 in
      let z = ap points_of m.1 in
      let l = ltb-true (lowest s) (tasks s) t in
      let e = eqb-true (get_or (ran_of s.work) (lowest s) 0) 0 (least_passes (λ i. eqb (get_or (ran_of s.work) i 0) 0) (tasks s) l) in
      not_run m.0 w.0 m.1 w.1 (omega arith) (sym (ap (λ o. get_or (ran_of o) (lowest s) 0) w.1) ∙ e)

  right_finish : (slip : ℕ) → Right s (finish slip) (refusal s (finish slip))
  right_finish slip = all_tests s (finish slip) (λ k p b. b)
      unasked
      (λ clear t. none_standing (to_go_on (to_finish slip)) (empty s.standing t))
      unasked unasked
      (λ clear t. none_in_work (to_finish slip) (empty s.work t))
      unasked
      (λ clear t. other s (finish slip) slip (by_finish slip) t)
      (λ clear t. finds_task slip clear t)

  -- a load whose tables have no cause, and one whose tables have one
  module _ (cs fs ms ss : List ℕ) where
    load_lawful : judge (mesh_of cs fs ms ss) ≡ fine → Right s (load cs fs ms ss) (tests s (load cs fs ms ss))
    load_lawful e = all_tests s (load cs fs ms ss) (no_cause (mesh_of cs fs ms ss) ((judges (mesh_of cs fs ms ss)).only_lawful e))
        (λ clear t. finds_work s (load cs fs ms ss) (to_load cs fs ms ss) t)
        unasked unasked
        (λ clear t. few_to_load (ltb-true s.words (terms s (load cs fs ms ss)).needed t))
        unasked unasked unasked unasked

    of_tables : (k p : ℕ) → k < 11 → CallCause s (load cs fs ms ss) k p → Cause (mesh_of cs fs ms ss) k p
    of_tables k p l x = elim (tested s x) [ inl b ↦ b | inr t ↦ let h = t.from in absurd (omega arith) ]

    load_unlawful : (k p : ℕ) → FirstCause (mesh_of cs fs ms ss) k p → FirstCallCause s (load cs fs ms ss) k p
    load_unlawful k p f =
        let l = number_below (mesh_of cs fs ms ss) k p f.holds in
        record {
          holds = unlawful f.holds;
          no_lower_place = λ i h x. f.no_lower_place i h (of_tables k i l x);
          no_lower_cause = λ j i h x. f.no_lower_cause j i h (of_tables j i (omega arith) x);
        }

    by_judge : (v : Verdict) → judge (mesh_of cs fs ms ss) ≡ v → Right s (load cs fs ms ss) (and_next v (tests s (load cs fs ms ss)))
    by_judge fine e = load_lawful e
    by_judge (declined k p) e = right_declined s (load cs fs ms ss) k p (load_unlawful k p ((causes_tried_in_order (mesh_of cs fs ms ss) k p).only_first e))

    right_load : Right s (load cs fs ms ss) (refusal s (load cs fs ms ss))
    right_load = by_judge (judge (mesh_of cs fs ms ss)) refl

  -- a text that is read has the causes of its tables and no other
  module _ (bytes : List ℕ) (room : Room) where
    of_text : {k p : ℕ} → CallCause s (load_text bytes room) k p →
        ((f : Fault) × (reading bytes room ≡ refused f) × (k ≡ number_of f) × (p ≡ place_of f)) ⊎ ((m : Mesh) × (reading bytes room ≡ accepted m) × CallCause s (load_of m) k p)
    of_text (in_work w d e) = no (free_asked d)
    of_text (none_standing d e) = no (standing_asked d)
    of_text (none_in_work d e) = no (work_asked d).1
    of_text (other_slip slip b h) = no (slip_asked s b).0
    of_text (unread f e) = inl (f, e, refl, refl)
    of_text (read m e x) = inr (m, e, x)

    of_read : (m : Mesh) → reading bytes room ≡ accepted m → (k p : ℕ) → CallCause s (load_text bytes room) k p → CallCause s (load_of m) k p
    of_read m e k p x = elim (of_text x) [
      | inl y ↦ let z = y.1 in let a : ◌≡◌ {A = ℕ} 0 1 = cc in absurd (omega arith)
      | inr y ↦ let z = y.1 in let a : y.0 ≡ m = cc in rw a at y.2
    ]

    of_unread : (g : Fault) → reading bytes room ≡ refused g → (k p : ℕ) → CallCause s (load_text bytes room) k p → (k ≡ number_of g) × (p ≡ place_of g)
    of_unread g e k p x = elim (of_text x) [
      | inl y ↦ let z = y.1 in let a : y.0 ≡ g = cc in (y.2 ∙ ap number_of a, y.3 ∙ ap place_of a)
      | inr y ↦ let z = y.1 in let a : ◌≡◌ {A = ℕ} 0 1 = cc in absurd (omega arith)
    ]

    by_reading : (r : Reading) → reading bytes room ≡ r → Right s (load_text bytes room) (text_refusal s r)
    by_reading (accepted m) e =
        let r = right_load m.corners m.friends m.marks m.starts in
        record {
          none = λ z k p x. r.none z k p (of_read m e k p x);
          first = λ k p z. let f = r.first k p z in record {
            holds = read m e f.holds;
            no_lower_place = λ i h x. f.no_lower_place i h (of_read m e k i x);
            no_lower_cause = λ j i h x. f.no_lower_cause j i h (of_read m e j i x);
          };
        }
    by_reading (refused g) e = right_declined s (load_text bytes room) (number_of g) (place_of g) (record {
      holds = unread g e;
      no_lower_place = λ i h x. let z = (of_unread g e (number_of g) i x).1 in absurd (omega arith);
      no_lower_cause = λ j i h x. let z = (of_unread g e j i x).0 in absurd (omega arith);
    })

right : (s : State) (c : Call) → Right s c (refusal s c)
right s (load cs fs ms ss) = right_load s cs fs ms ss
right s (load_text bytes room) = by_reading s bytes room (reading bytes room) refl
right s begin = right_begin s
right s (quad q) = right_quad s q
right s (point v) = right_point s v
right s (finish slip) = right_finish s slip
right s (withdraw slip) = right_withdraw s slip

-- ---- there is one first cause

module _ (s : State) (c : Call) where
  first_once : (k p j q : ℕ) → FirstCallCause s c k p → FirstCallCause s c j q → declined k p ≡ declined j q
  first_once k p j q a b = elim (cases_order k j) [
    | inl e ↦ elim (cases_order p q) [
      | inl d ↦ cc
      | inr o ↦ elim o [
        | inl l ↦ absurd (b.no_lower_place p l (rw e at a.holds))
        | inr l ↦ absurd (a.no_lower_place q l (rw e b.holds))
      ]
    ]
    | inr o ↦ elim o [
      | inl l ↦ absurd (b.no_lower_cause k p l a.holds)
      | inr l ↦ absurd (a.no_lower_cause j q l b.holds)
    ]
  ]

  the_first : (k p : ℕ) → FirstCallCause s c k p → (v : Verdict) → Right s c v → v ≡ declined k p
  the_first k p f fine r = absurd (r.none refl k p f.holds)
  the_first k p f (declined j q) r = first_once j q k p (r.first j q refl) f

  all_free : ((k p : ℕ) → CallCause s c k p → ⊥) → (v : Verdict) → Right s c v → v ≡ fine
  all_free n fine r = refl
  all_free n (declined k p) r = absurd (n k p (r.first k p refl).holds)

pub calls_refused_in_order : CallsRefusedInOrder
calls_refused_in_order s c = record {
  only_first = (right s c).first;
  the_first = λ k p f. the_first s c k p f (refusal s c) (right s c);
  only_free = (right s c).none;
  all_free = λ n. all_free s c n (refusal s c) (right s c);
}
