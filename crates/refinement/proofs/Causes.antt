-- A mesh is declined for its first cause at its first place, and for nothing where it is lawful.
use Rattle.std.proofs.Common.{◌≡◌, ℕ, zero, suc, ◌*◌, ◌<◌, ◌≤◌, Bool, true, false, not, ◌⊎◌, sym, refl, ap, ◌∙◌, subst, inl, inr, arith}
use Rattle.std.proofs.lemmas.Bool.{cases_lt, cases_order, lt-ltb, le-ltb, cond-true, cond-false, not-true, not-false, not_from_true, not_from_false}
use Rattle.mesh.specs.Causes.{Cause, wrong_shape, too_few_quads, too_many_quads, too_few_points, too_many_points, no_such_point, no_such_edge, no_mark, not_opposed, start_past_end, start_elsewhere, not_back, unmet, FirstBack, FirstCause, once, each, judge, shape_ok, quads_ok, points_ok, corner_ok, friend_ok, mark_ok, back_ok, start_ok, walk_ok, all_met, mesh_of}
use Rattle.mesh.specs.Count.{least, total}
use Rattle.mesh.specs.Marks.{MarkWord}
use Rattle.mesh.specs.Mesh.{Mesh, Counted, Sound, Lawful, Meets, RunsBack, point, friend, mark, start, shortest, longest, valence, fewest_quads, most_quads}
use Rattle.mesh.specs.Refusals.{Verdict, fine, declined}
use Rattle.refinement.specs.Laws.{CausesTriedInOrder, Judges, TablesHaveShape}
use Rattle.refinement.proofs.Corners.{walks_meet_at_most, corners_met_once, unmet_corner}
use Rattle.refinement.proofs.Tests.{Tells, denies, decides, shape_tells, quads_tell, points_tell, corner_tells, friend_tells, mark_tells, back_tells, start_tells, walk_tells, met_tells}
use Rattle.refinement.proofs.Totals.{least_is, least_none, least_fails, least_passes}
use Rattle.refinement.proofs.Walks.{valence_is, walk_back, walk_not_back}

pub declined_not_fine : (k p : ℕ) → declined k p ≡ fine → ⊥
declined_not_fine k p e = let z : ◌≡◌ {A = ℕ} 0 1 = cc in omega arith

pub same_number : (k p j q : ℕ) → declined k p ≡ declined j q → k ≡ j
same_number k p j q e = cc

pub same_place : (k p j q : ℕ) → declined k p ≡ declined j q → p ≡ q
same_place k p j q e = cc

not_below : (a b : ℕ) → (a < b → ⊥) → b ≤ a
not_below a b n = elim (cases_lt a b) [ inl l ↦ absurd (n l) | inr l ↦ l ]

module _ (m : Mesh) where
  -- what a cause of each number says
  Says : ℕ → ℕ → Type 0
  Says zero p = ⊥
  Says (suc zero) p = Counted m → ⊥
  Says (suc (suc zero)) p = (m.quads < fewest_quads) ⊎ (most_quads < m.quads)
  Says (suc (suc (suc zero))) p = (m.points < m.quads) ⊎ (2 * m.quads < m.points)
  Says (suc (suc (suc (suc zero)))) p = (p < 4 * m.quads) × (m.points ≤ point m p)
  Says (suc (suc (suc (suc (suc zero))))) p = (p < 2 * m.quads) × (2 * m.quads ≤ friend m p)
  Says (suc (suc (suc (suc (suc (suc zero)))))) p = (p < 2 * m.quads) × (MarkWord (mark m p) → ⊥)
  Says (suc (suc (suc (suc (suc (suc (suc zero))))))) p = (p < 2 * m.quads) × (RunsBack m p → ⊥)
  Says (suc (suc (suc (suc (suc (suc (suc (suc zero)))))))) p = (p < m.points) × ((4 * m.quads ≤ start m p) ⊎ (point m (start m p) ≡ p → ⊥))
  Says (suc (suc (suc (suc (suc (suc (suc (suc (suc zero))))))))) p = (p < m.points) × ((n : ℕ) → shortest ≤ n → n ≤ longest → FirstBack m p n → ⊥)
  Says (suc (suc (suc (suc (suc (suc (suc (suc (suc (suc zero)))))))))) p = (c : ℕ) × (c < 4 * m.quads) × ((v i : ℕ) → Meets m v i c → ⊥)
  Says (suc (suc (suc (suc (suc (suc (suc (suc (suc (suc (suc k))))))))))) p = ⊥

  says : (k p : ℕ) → Cause m k p → Says k p
  unfolding Says
  says k p (wrong_shape e z h) = subst (λ x. Says x p) (sym e) h
  says k p (too_few_quads e z h) = subst (λ x. Says x p) (sym e) (inl h)
  says k p (too_many_quads e z h) = subst (λ x. Says x p) (sym e) (inr h)
  says k p (too_few_points e z h) = subst (λ x. Says x p) (sym e) (inl h)
  says k p (too_many_points e z h) = subst (λ x. Says x p) (sym e) (inr h)
  says k p (no_such_point e l h) = subst (λ x. Says x p) (sym e) (l, h)
  says k p (no_such_edge e l h) = subst (λ x. Says x p) (sym e) (l, h)
  says k p (no_mark e l h) = subst (λ x. Says x p) (sym e) (l, h)
  says k p (not_opposed e l h) = subst (λ x. Says x p) (sym e) (l, h)
  says k p (start_past_end e l h) = subst (λ x. Says x p) (sym e) (l, inl h)
  says k p (start_elsewhere e l h) = subst (λ x. Says x p) (sym e) (l, inr h)
  says k p (not_back e l h) = subst (λ x. Says x p) (sym e) (l, h)
  says k p (unmet e z c l h) = subst (λ x. Says x p) (sym e) (c, l, h)

  pub number_below : (k p : ℕ) → Cause m k p → k < 11
  number_below k p (wrong_shape e z h) = omega arith
  number_below k p (too_few_quads e z h) = omega arith
  number_below k p (too_many_quads e z h) = omega arith
  number_below k p (too_few_points e z h) = omega arith
  number_below k p (too_many_points e z h) = omega arith
  number_below k p (no_such_point e l h) = omega arith
  number_below k p (no_such_edge e l h) = omega arith
  number_below k p (no_mark e l h) = omega arith
  number_below k p (not_opposed e l h) = omega arith
  number_below k p (start_past_end e l h) = omega arith
  number_below k p (start_elsewhere e l h) = omega arith
  number_below k p (not_back e l h) = omega arith
  number_below k p (unmet e z c l h) = omega arith

  -- no cause below k holds; and a verdict is right: it is of the first cause, or there is none
  abbrev Clear : ℕ → Type 0
  Clear k = (j i : ℕ) → j < k → Cause m j i → ⊥

  record Right (v : Verdict) : Type 0 where
    none : v ≡ fine → Clear 11
    first : (k p : ℕ) → v ≡ declined k p → FirstCause m k p

  clear_more : (k : ℕ) → Clear k → ((i : ℕ) → Cause m k i → ⊥) → Clear (suc k)
  clear_more k clear against j i l c = elim (cases_lt j k) [
    | inl h ↦ clear j i h c
    | inr h ↦ let e : j ≡ k = omega arith in against i (rw e at c)
  ]

  right_declined : (k p : ℕ) → FirstCause m k p → Right (declined k p)
  right_declined k p f = record {
    none = λ e. absurd (declined_not_fine k p e);
    first = λ j q e. rw (same_place k p j q e) at (rw (same_number k p j q e) at f);
  }

  -- a test of the whole mesh, and of each place below n
  right_once : (k : ℕ) (ok : Bool) (rest : Verdict) → (ok ≡ true → (i : ℕ) → Cause m k i → ⊥) → (ok ≡ false → Cause m k 0) →
      Clear k → (Clear (suc k) → Right rest) → Right (once k ok rest)
  unfolding once
  right_once k true rest against for clear more = more (clear_more k clear (against refl))
  right_once k false rest against for clear more =
      right_declined k 0 (record { holds = for refl; no_lower_place = λ i l. absurd (omega arith); no_lower_cause = clear })

  right_each : (k : ℕ) (ok : ℕ → Bool) (n : ℕ) (rest : Verdict) → ((i : ℕ) → i < n → ok i ≡ true → Cause m k i → ⊥) → ((i : ℕ) → i < n → ok i ≡ false → Cause m k i) →
      ((i : ℕ) → n ≤ i → Cause m k i → ⊥) → Clear k → (Clear (suc k) → Right rest) → Right (each k ok n rest)
  unfolding each
  right_each k ok n rest against for past clear more =
      let p = least (λ i. not (ok i)) n in
      elim (cases_lt (least (λ i. not (ok i)) n) n) [
        | inl l ↦ subst Right (sym (cond-true _ (declined k p) rest (lt-ltb p n l))) (right_declined k p (record {
          holds = for p l (not-true (ok p) (least_passes (λ i. not (ok i)) n l));
          no_lower_place = λ i h. against i (omega arith) (not-false (ok i) (least_fails (λ i. not (ok i)) n i h));
          no_lower_cause = clear;
        }))
        | inr l ↦ subst Right (sym (cond-false _ (declined k p) rest (le-ltb p n l))) (more (clear_more k clear
            (λ i c. elim (cases_lt i n) [
              | inl h ↦ against i h (not-false (ok i) (least_fails (λ i. not (ok i)) n i (omega arith))) c
              | inr h ↦ past i h c
            ])))
      ]

  -- a number that is not within two bounds
  outside : (a x b : ℕ) → ((a ≤ x) × (x ≤ b) → ⊥) → (x < a) ⊎ (b < x)
  outside a x b n = elim (cases_lt x a) [
    | inl l ↦ inl l
    | inr l ↦ elim (cases_lt b x) [ inl h ↦ inr h | inr h ↦ absurd (n (l, h)) ]
  ]

  quads_outside : (m.quads < fewest_quads) ⊎ (most_quads < m.quads) → Cause m 2 0
  quads_outside (inl l) = too_few_quads refl refl l
  quads_outside (inr l) = too_many_quads refl refl l

  points_outside : (m.points < m.quads) ⊎ (2 * m.quads < m.points) → Cause m 3 0
  points_outside (inl l) = too_few_points refl refl l
  points_outside (inr l) = too_many_points refl refl l

  within : (a x b : ℕ) → (a ≤ x) × (x ≤ b) → (x < a) ⊎ (b < x) → ⊥
  within a x b p s = let l = p.0 in let h = p.1 in elim s [ inl y ↦ omega arith | inr y ↦ omega arith ]

  start_wrong : (v : ℕ) → v < m.points → ((start m v < 4 * m.quads) × (point m (start m v) ≡ v) → ⊥) → Cause m 8 v
  start_wrong v h n = elim (cases_lt (start m v) (4 * m.quads)) [
    | inl l ↦ start_elsewhere refl h (λ e. n (l, e))
    | inr l ↦ start_past_end refl h l
  ]

  start_right : (v : ℕ) → (start m v < 4 * m.quads) × (point m (start m v) ≡ v) → (4 * m.quads ≤ start m v) ⊎ (point m (start m v) ≡ v → ⊥) → ⊥
  start_right v p s = let l = p.0 in elim s [ inl x ↦ omega arith | inr x ↦ x p.1 ]

  -- a walk is first back after its valence, if that is not too much
  walk_right : (v : ℕ) → valence m v ≤ longest → FirstBack m v (valence m v)
  walk_right v h = record { back = walk_back m v h; not_before = λ i x y. walk_not_back m v i (omega arith) y }

  walk_wrong : (v : ℕ) → ((shortest ≤ valence m v) × (valence m v ≤ longest) → ⊥) → (n : ℕ) → shortest ≤ n → n ≤ longest → FirstBack m v n → ⊥
  walk_wrong v f n l h b =
      let e = valence_is m v n (omega arith) h b.back (λ i x y. b.not_before i (omega arith) y) in
      f (omega arith, omega arith)

  -- where no cause below 10 holds the tables are sound
  holds_unless : {t : Bool} {P : Type 0} → Tells t P → ((P → ⊥) → ⊥) → P
  holds_unless d n = elim (decides d) [ inl p ↦ p | inr p ↦ absurd (n p) ]

  sound : Clear 10 → Sound m
  sound clear =
      let quads = holds_unless (quads_tell m) (λ n. clear 2 0 (omega arith) (quads_outside (outside fewest_quads m.quads most_quads n))) in
      let points = holds_unless (points_tell m) (λ n. clear 3 0 (omega arith) (points_outside (outside m.quads m.points (2 * m.quads) n))) in
      let starts = λ (v : ℕ) (h : v < m.points). holds_unless (start_tells m v) (λ n. clear 8 v (omega arith) (start_wrong v h n)) in
      let walks = λ (v : ℕ) (h : v < m.points). holds_unless (walk_tells m v) (λ n. clear 9 v (omega arith) (not_back refl h (walk_wrong v n))) in
      record {
        counted = holds_unless (shape_tells m) (λ n. clear 1 0 (omega arith) (wrong_shape refl refl n));
        quads_enough = quads.0;
        quads_few = quads.1;
        points_enough = points.0;
        points_few = points.1;
        corners_have_points = λ c h. elim (cases_lt (point m c) m.points) [ inl l ↦ l | inr l ↦ absurd (clear 4 c (omega arith) (no_such_point refl h l)) ];
        friends_are_edges = λ o h. elim (cases_lt (friend m o) (2 * m.quads)) [ inl l ↦ l | inr l ↦ absurd (clear 5 o (omega arith) (no_such_edge refl h l)) ];
        marks_are_words = λ o h. holds_unless (mark_tells m o) (λ n. clear 6 o (omega arith) (no_mark refl h n));
        friends_run_back = λ o h. holds_unless (back_tells m o) (λ n. clear 7 o (omega arith) (not_opposed refl h n));
        starts_are_corners = λ v h. (starts v h).0;
        starts_at_points = λ v h. (starts v h).1;
        walks_not_short = λ v h. (walks v h).0;
        walks_return = λ v h. (walks v h).1;
      }

  -- a lawful mesh has no cause
  pub no_cause : Lawful m → (k p : ℕ) → Cause m k p → ⊥
  no_cause w k p (wrong_shape e z h) = h w.sound.counted
  no_cause w k p (too_few_quads e z h) = let x = w.sound.quads_enough in omega arith
  no_cause w k p (too_many_quads e z h) = let x = w.sound.quads_few in omega arith
  no_cause w k p (too_few_points e z h) = let x = w.sound.points_enough in omega arith
  no_cause w k p (too_many_points e z h) = let x = w.sound.points_few in omega arith
  no_cause w k p (no_such_point e l h) = let x = w.sound.corners_have_points p l in omega arith
  no_cause w k p (no_such_edge e l h) = let x = w.sound.friends_are_edges p l in omega arith
  no_cause w k p (no_mark e l h) = h (w.sound.marks_are_words p l)
  no_cause w k p (not_opposed e l h) = h (w.sound.friends_run_back p l)
  no_cause w k p (start_past_end e l h) = let x = w.sound.starts_are_corners p l in omega arith
  no_cause w k p (start_elsewhere e l h) = h (w.sound.starts_at_points p l)
  no_cause w k p (not_back e l h) = let b = w.sound.walks_return p l in h (valence m p) (w.sound.walks_not_short p l) b (walk_right p b)
  no_cause w k p (unmet e z c l h) = let r = corners_met_once m w c l in h r.by r.after r.meets

  -- the test of cause 10
  met_right : Sound m → 4 * m.quads ≤ total (valence m) m.points → Lawful m
  met_right w l = let b = walks_meet_at_most m w in record { sound = w; walks_meet_all = omega arith }

  met_wrong : Sound m → (4 * m.quads ≤ total (valence m) m.points → ⊥) → Cause m 10 0
  met_wrong w n = elim (cases_lt (total (valence m) m.points) (4 * m.quads)) [
    | inl l ↦ let r = unmet_corner m w l in unmet refl refl r.0 r.1 r.2
    | inr l ↦ absurd (n l)
  ]

  lawful : Clear 11 → Lawful m
  lawful clear =
      let w = sound (λ j i l. clear j i (omega arith)) in
      met_right w (holds_unless (met_tells m) (λ n. clear 10 0 (omega arith) (met_wrong w n)))

  no_zero : (j i : ℕ) → j < 1 → Cause m j i → ⊥
  unfolding Says
  no_zero zero i l c = says zero i c
  no_zero (suc j) i l c = omega arith

  -- all the tests, one after the other
  right : Right (judge m)
  unfolding judge Says
  right =
      right_once 1 (shape_ok m) _ (λ t i c. says 1 i c ((shape_tells m).holds t)) (λ f. wrong_shape refl refl (denies (shape_tells m) f)) no_zero (λ c2.
      right_once 2 (quads_ok m) _ (λ t i c. within fewest_quads m.quads most_quads ((quads_tell m).holds t) (says 2 i c))
      (λ f. quads_outside (outside fewest_quads m.quads most_quads (denies (quads_tell m) f))) c2 (λ c3.
      right_once 3 (points_ok m) _ (λ t i c. within m.quads m.points (2 * m.quads) ((points_tell m).holds t) (says 3 i c))
      (λ f. points_outside (outside m.quads m.points (2 * m.quads) (denies (points_tell m) f))) c3 (λ c4.
      right_each 4 (corner_ok m) (4 * m.quads) _
      (λ i h t c. let a = (corner_tells m i).holds t in let b = (says 4 i c).1 in omega arith)
      (λ i h f. no_such_point refl h (not_below (point m i) m.points (denies (corner_tells m i) f))) (λ i h c. let a = (says 4 i c).0 in omega arith) c4 (λ c5.
      right_each 5 (friend_ok m) (2 * m.quads) _
      (λ i h t c. let a = (friend_tells m i).holds t in let b = (says 5 i c).1 in omega arith)
      (λ i h f. no_such_edge refl h (not_below (friend m i) (2 * m.quads) (denies (friend_tells m i) f))) (λ i h c. let a = (says 5 i c).0 in omega arith) c5 (λ c6.
      right_each 6 (mark_ok m) (2 * m.quads) _
      (λ i h t c. (says 6 i c).1 ((mark_tells m i).holds t)) (λ i h f. no_mark refl h (denies (mark_tells m i) f)) (λ i h c. let a = (says 6 i c).0 in omega arith) c6 (λ c7.
      right_each 7 (back_ok m) (2 * m.quads) _
      (λ i h t c. (says 7 i c).1 ((back_tells m i).holds t)) (λ i h f. not_opposed refl h (denies (back_tells m i) f)) (λ i h c. let a = (says 7 i c).0 in omega arith) c7 (λ c8.
      right_each 8 (start_ok m) m.points _
      (λ i h t c. start_right i ((start_tells m i).holds t) (says 8 i c).1) (λ i h f. start_wrong i h (denies (start_tells m i) f)) (λ i h c. let a = (says 8 i c).0 in omega arith) c8 (λ c9.
      right_each 9 (walk_ok m) m.points _
      (λ i h t c. let w = (walk_tells m i).holds t in (says 9 i c).1 (valence m i) w.0 w.1 (walk_right i w.1))
      (λ i h f. not_back refl h (walk_wrong i (denies (walk_tells m i) f))) (λ i h c. let a = (says 9 i c).0 in omega arith) c9 (λ c10.
      right_once 10 (all_met m) fine (λ t i c. no_cause (met_right (sound c10) ((met_tells m).holds t)) 10 i c) (λ f. met_wrong (sound c10) (denies (met_tells m) f)) c10 (λ c11.
      record { none = λ e. c11; first = λ k p e. absurd (declined_not_fine k p (sym e)) }))))))))))

  first_once : (k p j q : ℕ) → FirstCause m k p → FirstCause m j q → declined k p ≡ declined j q
  first_once k p j q a b = elim (cases_order k j) [
    | inl e ↦ elim (cases_order p q) [
      | inl d ↦ cc
      | inr o ↦ elim o [
        | inl l ↦ absurd (b.no_lower_place p l (rw e at a.holds))
        | inr l ↦ absurd (a.no_lower_place q l (rw e b.holds))
      ]
    ]
    | inr o ↦ elim o [
      | inl l ↦ absurd (b.no_lower_cause k p l a.holds)
      | inr l ↦ absurd (a.no_lower_cause j q l b.holds)
    ]
  ]

  the_first : (k p : ℕ) → FirstCause m k p → (v : Verdict) → Right v → v ≡ declined k p
  the_first k p f fine r = absurd (r.none refl k p (number_below k p f.holds) f.holds)
  the_first k p f (declined j q) r = first_once j q k p (r.first j q refl) f

  judged_fine : Lawful m → (v : Verdict) → Right v → v ≡ fine
  judged_fine w fine r = refl
  judged_fine w (declined k p) r = absurd (no_cause w k p (r.first k p refl).holds)

pub causes_tried_in_order : CausesTriedInOrder
causes_tried_in_order m k p = record { only_first = (right m).first k p; the_first = λ f. the_first m k p f (judge m) (right m) }

pub judges : Judges
judges m = record { only_lawful = λ e. lawful m ((right m).none e); all_lawful = λ w. judged_fine m w (judge m) (right m) }

-- the shape of four tables
pub tables_have_shape : TablesHaveShape
unfolding mesh_of
tables_have_shape cs fs ms ss = record {
  counted_fits = λ c.
      let a = c.corner_count in
      let b = c.friend_count in
      let d = c.mark_count in
      record { fours = omega arith; half_friends = omega arith; half_marks = omega arith };
  fitting_counted = λ f.
      let a = f.fours in
      let b = f.half_friends in
      let d = f.half_marks in
      record { corner_count = omega arith; friend_count = omega arith; mark_count = omega arith; start_count = refl };
}

-- the verdict of code that goes through the tests: on to the next where all pass, and the first place that fails
pub once_on : (k : ℕ) (ok : Bool) (rest : Verdict) → ok ≡ true → once k ok rest ≡ rest
unfolding once
once_on k ok rest t = cond-true ok rest (declined k 0) t

pub once_fault : (k : ℕ) (ok : Bool) (rest : Verdict) → ok ≡ false → once k ok rest ≡ declined k 0
unfolding once
once_fault k ok rest f = cond-false ok rest (declined k 0) f

pub each_on : (k : ℕ) (ok : ℕ → Bool) (n : ℕ) (rest : Verdict) → ((i : ℕ) → i < n → ok i ≡ true) → each k ok n rest ≡ rest
unfolding each
each_on k ok n rest t =
    let e = least_none (λ i. not (ok i)) n (λ i h. not_from_true (ok i) (t i h)) in
    cond-false _ _ rest (le-ltb (least (λ i. not (ok i)) n) n (omega arith))

pub each_fault : (k : ℕ) (ok : ℕ → Bool) (n : ℕ) (rest : Verdict) (p : ℕ) → p < n → ok p ≡ false → ((i : ℕ) → i < p → ok i ≡ true) → each k ok n rest ≡ declined k p
unfolding each
each_fault k ok n rest p l f t =
    let e = least_is (λ i. not (ok i)) n p l (not_from_false (ok p) f) (λ i h. not_from_true (ok i) (t i h)) in
    cond-true _ (declined k (least (λ i. not (ok i)) n)) rest (lt-ltb (least (λ i. not (ok i)) n) n (omega arith)) ∙ ap (declined k) e
