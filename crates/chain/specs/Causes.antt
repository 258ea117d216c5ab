-- The causes of each call in plain facts, and the law that a call is refused for its first cause and for no other.
-- (`refusal` finds the same cause by tests.)
use Rattle.std.specs.Prelude.{◌≡◌, ℕ, ◌+◌, ◌*◌, ◌<◌, ◌≤◌, List, Some, None, ◌≢◌, slice_index}
use Rattle.mesh.specs.Causes.{Cause, mesh_of}
use Rattle.mesh.specs.Mesh.{Mesh, most_quads}
use Rattle.mesh.specs.Refusals.{fine, declined, number_of, place_of}
use Rattle.mesh.specs.declared.fault.Fault.{Fault}
use Rattle.lines.specs.Reading.{Room, accepted, refused, reading}
use Rattle.chain.specs.Calls.{Call, load, load_text, begin, quad, point, finish, withdraw, Work, State, words_to_load, words_to_begin, refusal}
use Rattle.chain.specs.Clauses.{load_of}

-- the calls that no level in work may stand beside
pub data NeedsFree : Call → Type 0 where
  to_load : (cs fs ms ss : List ℕ) → NeedsFree (load cs fs ms ss)
  to_begin : NeedsFree begin

-- the calls that go on with a level in work
pub data NeedsWork : Call → Type 0 where
  for_quad : (q : ℕ) → NeedsWork (quad q)
  for_point : (v : ℕ) → NeedsWork (point v)
  to_finish : (slip : ℕ) → NeedsWork (finish slip)
  to_withdraw : (slip : ℕ) → NeedsWork (withdraw slip)

-- the calls that need a standing level: those, and begin
pub data NeedsStanding : Call → Type 0 where
  for_begin : NeedsStanding begin
  to_go_on : {c : Call} → NeedsWork c → NeedsStanding c

-- the call is given a slip that bears this mark number
pub data Bears : Call → ℕ → Type 0 where
  by_finish : (slip : ℕ) → Bears (finish slip) slip
  by_withdraw : (slip : ℕ) → Bears (withdraw slip) slip

-- The table of causes: on the bench s a call has a cause, by its number and its place.
pub data CallCause (s : State) : Call → ℕ → ℕ → Type 0 where
  -- the tables are no lawful mesh: a cause of theirs, 1 to 10
  unlawful : {cs fs ms ss : List ℕ} {k p : ℕ} → Cause (mesh_of cs fs ms ss) k p → CallCause s (load cs fs ms ss) k p
  -- a level is in work
  in_work : {c : Call} (w : Work) → NeedsFree c → s.work ≡ Some w → CallCause s c 11 0
  -- there is no standing level
  none_standing : {c : Call} → NeedsStanding c → s.standing ≡ None → CallCause s c 12 0
  -- the refined level would have too many quads
  too_large : (m : Mesh) → s.standing ≡ Some m → most_quads < 4 * m.quads → CallCause s begin 13 0
  -- the bench has too few working words
  few_to_load : {cs fs ms ss : List ℕ} → s.words < words_to_load (mesh_of cs fs ms ss).quads (mesh_of cs fs ms ss).points →
      CallCause s (load cs fs ms ss) 14 0
  few_to_begin : (m : Mesh) → s.standing ≡ Some m → s.words < words_to_begin m.quads m.points → CallCause s begin 14 0
  -- there is no level in work
  none_in_work : {c : Call} → NeedsWork c → s.work ≡ None → CallCause s c 15 0
  -- the standing level has no such quad, or no such point
  no_such_quad : {q : ℕ} (m : Mesh) → s.standing ≡ Some m → m.quads ≤ q → CallCause s (quad q) 16 q
  no_such_point : {v : ℕ} (m : Mesh) → s.standing ≡ Some m → m.points ≤ v → CallCause s (point v) 16 v
  -- the slip bears another mark number
  other_slip : {c : Call} (slip : ℕ) → Bears c slip → (slip ≢ s.mark) → CallCause s c 17 0
  -- task p has not run: the quads are the first tasks, and the points come after them
  not_run : {slip p : ℕ} (m : Mesh) (w : Work) → s.standing ≡ Some m → s.work ≡ Some w →
      p < m.quads + m.points → slice_index w.ran p ≡ 0 → CallCause s (finish slip) 18 p
  -- a text that is not read has no other cause than that
  unread : {bytes : List ℕ} {room : Room} (f : Fault) → reading bytes room ≡ refused f → CallCause s (load_text bytes room) (number_of f) (place_of f)
  -- and one that is read has the causes of its tables
  read : {bytes : List ℕ} {room : Room} {k p : ℕ} (m : Mesh) → reading bytes room ≡ accepted m → CallCause s (load_of m) k p →
      CallCause s (load_text bytes room) k p

-- p is the first place of cause k, and no cause before it holds anywhere
pub record FirstCallCause (s : State) (c : Call) (k p : ℕ) : Type 0 where
  pub holds : CallCause s c k p
  pub no_lower_place : (i : ℕ) → i < p → CallCause s c k i → ⊥
  pub no_lower_cause : (j i : ℕ) → j < k → CallCause s c j i → ⊥

-- A call is refused for its first cause at its first place, and for no other; and where it has no cause it is carried out.
pub record RefusedRight (s : State) (c : Call) : Type 0 where
  pub only_first : (k p : ℕ) → refusal s c ≡ declined k p → FirstCallCause s c k p
  pub the_first : (k p : ℕ) → FirstCallCause s c k p → refusal s c ≡ declined k p
  pub only_free : refusal s c ≡ fine → (k p : ℕ) → CallCause s c k p → ⊥
  pub all_free : ((k p : ℕ) → CallCause s c k p → ⊥) → refusal s c ≡ fine

-- of every bench, be it reached by calls or not
abbrev pub CallsRefusedInOrder : Type 0
CallsRefusedInOrder = (s : State) (c : Call) → RefusedRight s c
