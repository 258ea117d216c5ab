-- A bench, the slip that is held beside it, and requests that are made of both: the calls that they make, and what each gives.
use Rattle.std.specs.Prelude.{◌≡◌, ℕ, List, [], ◌∷◌, ◌++◌, map, length, take, drop, Some, None, Ok, Err, Option, Result}
use Rattle.mesh.specs.Refusals.{Verdict, fine, declined, number_of, place_of}
use Rattle.mesh.specs.declared.fault.Fault.{Fault}
use Rattle.chain.specs.Calls.{Call, load, begin, quad, point, finish, withdraw, State, refusal, next, left}
use Rattle.chain.specs.Clauses.{run_on}
use Rattle.bench.specs.Model.{state}
use Rattle.bench.specs.declared.bench.Bench.{Bench}
use Rattle.bench.specs.declared.bench.slip.Slip.{Slip}
use Rattle.bench.specs.declared.bench.slip.Declined.{Declined}
use Rattle.requests.specs.declared.request.Request.{Request}
use Rattle.requests.specs.declared.request.Request.TheVariants.{Load, Begin, RunQuad, RunPoint, Finish, Withdraw}
use Rattle.requests.specs.declared.request.Answer.{Answer}
use Rattle.requests.specs.declared.request.Answer.TheVariants.{Nothing, Done, Left, Refused}

-- the slip is known by its mark number
pub record Session : Type 0 where
  pub bench : State
  pub held : Option ℕ

abbrev pub held_mark : Option Slip → Option ℕ
held_mark None = None
held_mark (Some s) = Some s.mark

abbrev pub beside : Bench → Option Slip → Session
beside b held = record { bench = state b; held = held_mark held }

-- what may be asked: a load of four tables (corners, friends, marks, starts), a begin, the task of a quad or of a point, a finish, a withdraw
pub data Asked : Type 0 where
  to_load : List ℕ → List ℕ → List ℕ → List ℕ → Asked
  to_begin : Asked
  to_run_quad : ℕ → Asked
  to_run_point : ℕ → Asked
  to_finish : Asked
  to_withdraw : Asked

-- what a request asks
abbrev pub asked : Request → Asked
asked (Load t) = to_load t.corners.now t.friends.now t.marks.now t.starts.now
asked Begin = to_begin
asked (RunQuad q) = to_run_quad q.0
asked (RunPoint v) = to_run_point v.0
asked Finish = to_finish
asked Withdraw = to_withdraw

-- what the first n rows of any kind ask
abbrev pub first_asked : {Q : Type 0} → (Q → Asked) → ℕ → List Q → List Asked
first_asked asks n rows = map asks (take n rows)

-- the call that a request makes, if any: begin where no slip is held, finish and withdraw with the one that is
abbrev pub calls_of : Option ℕ → Asked → List Call
calls_of h (to_load cs fs ms ss) = load cs fs ms ss ∷ []
calls_of None to_begin = begin ∷ []
calls_of (Some m) to_begin = []
calls_of h (to_run_quad q) = quad q ∷ []
calls_of h (to_run_point v) = point v ∷ []
calls_of None to_finish = []
calls_of (Some m) to_finish = finish m ∷ []
calls_of None to_withdraw = []
calls_of (Some m) to_withdraw = withdraw m ∷ []

-- the slip held then
abbrev pub unless : {A : Type 0} → Verdict → A → A → A
unless fine new old = new
unless (declined n p) new old = old

abbrev pub held_then : State → Option ℕ → Asked → Option ℕ
held_then s h (to_load cs fs ms ss) = h
held_then s None to_begin = unless (refusal s begin) (Some s.mark) None
held_then s (Some m) to_begin = Some m
held_then s h (to_run_quad q) = h
held_then s h (to_run_point v) = h
held_then s None to_finish = None
held_then s (Some m) to_finish = unless (refusal s (finish m)) None (Some m)
held_then s None to_withdraw = None
held_then s (Some m) to_withdraw = unless (refusal s (withdraw m)) None (Some m)

abbrev pub play : Session → Asked → Session
play t a = record { bench = run_on t.bench (calls_of t.held a); held = held_then t.bench t.held a }

abbrev pub plays : Session → List Asked → Session
plays t [] = t
plays t (a ∷ rs) = plays (play t a) rs

-- all calls that the requests make, in their order
abbrev pub calls_made : Session → List Asked → List Call
calls_made t [] = []
calls_made t (a ∷ rs) = calls_of t.held a ++ calls_made (play t a) rs

-- what a request gives: no call, a refusal with its place, that it is done, or how many tasks are left
pub data Reply : Type 0 where
  no_call : Reply
  done : Reply
  tasks_left : ℕ → Reply
  refused : ℕ → ℕ → Reply

abbrev pub reply : Verdict → Reply → Reply
reply fine r = r
reply (declined n p) r = refused n p

abbrev pub reply_of : State → Option ℕ → Asked → Reply
reply_of s h (to_load cs fs ms ss) = reply (refusal s (load cs fs ms ss)) done
reply_of s None to_begin = reply (refusal s begin) done
reply_of s (Some m) to_begin = no_call
reply_of s h (to_run_quad q) = reply (refusal s (quad q)) (tasks_left (left (next s (quad q))))
reply_of s h (to_run_point v) = reply (refusal s (point v)) (tasks_left (left (next s (point v))))
reply_of s None to_finish = no_call
reply_of s (Some m) to_finish = reply (refusal s (finish m)) done
reply_of s None to_withdraw = no_call
reply_of s (Some m) to_withdraw = reply (refusal s (withdraw m)) done

abbrev pub replies : Session → List Asked → List Reply
replies t [] = []
replies t (a ∷ rs) = reply_of t.bench t.held a ∷ replies (play t a) rs

abbrev pub told_reply : Answer → Reply
told_reply Nothing = no_call
told_reply Done = done
told_reply (Left n) = tasks_left n
told_reply (Refused f) = refused (number_of f) (place_of f)

-- the slip that a finish or a withdraw gives back
abbrev pub given_back : {A : Type 0} → Result A Declined → Option ℕ
given_back (Ok x) = None
given_back (Err d) = Some d.slip.mark

-- what the result of a task says
abbrev pub count_reply : Result ℕ Fault → Reply
count_reply (Ok n) = tasks_left n
count_reply (Err f) = refused (number_of f) (place_of f)

-- a list laid over the front of another
abbrev pub over : {A : Type 0} → List A → List A → List A
over new old = new ++ drop (length new) old

-- Answers that say what was given, each kept in some form, are laid over the front of what was there.
pub record Gave {K : Type 0} (keeps : Answer → K) (given : List Reply) (before after : List K) : Type 0 where
  pub answers : List Answer
  pub say : map told_reply answers ≡ given
  pub kept : after ≡ over (map keeps answers) before

-- a slip that is still held at the end is withdrawn
abbrev pub closing : Option ℕ → List Call
closing None = []
closing (Some m) = withdraw m ∷ []

abbrev pub all_calls : State → List Asked → List Call
all_calls s rs =
    calls_made (record { bench = s; held = None }) rs ++ closing (plays (record { bench = s; held = None }) rs).held
