-- Several requests: what they leave is what their calls leave, so the promise goes on through them.
use Rattle.std.proofs.Common.{◌≡◌, ℕ, List, [], ◌∷◌, ◌++◌, None, Option, Ok, Err, Result, sym, refl, ap, ◌∙◌, subst}
use Rattle.std.specs.Result.{IsOk}
use Rattle.bench.specs.Model.{told_slip}
use Rattle.bench.specs.declared.bench.slip.Declined.{Declined}
use Rattle.chain.specs.Calls.{Call, State, next}
use Rattle.chain.specs.Clauses.{After, GoesOnThrough, Made, run_on}
use Rattle.chain.proofs.Runs.{through_made, through_run}
use Rattle.mesh.specs.Refusals.{Verdict, fine, declined, number_of, place_of}
use Rattle.requests.proofs.Fits.{Fits, fits_plays}
use Rattle.requests.specs.Sessions.{Asked, Session, closing, all_calls, calls_of, play, plays, calls_made}

run_on_append : (s : State) (xs ys : List Call) → run_on s (xs ++ ys) ≡ run_on (run_on s xs) ys
run_on_append s [] ys = refl
run_on_append s (x ∷ xs) ys = run_on_append (next s x) xs ys

pub plays_run : (t : Session) (rs : List Asked) → (plays t rs).bench ≡ run_on t.bench (calls_made t rs)
plays_run t [] = refl
plays_run t (a ∷ rs) = plays_run (play t a) rs ∙ sym (run_on_append t.bench (calls_of t.held a) (calls_made (play t a) rs))

-- what the calls leave, the promise of them, and that from the making of the bench on
pub record Goes (s : State) (cs : List Call) (exit : State) : Type 0 where
  pub promise : GoesOnThrough s cs exit
  pub made : (words mark : ℕ) → Made words mark s → After words mark cs exit

pub goes : (s : State) (cs : List Call) (exit : State) → exit ≡ run_on s cs → Goes s cs exit
goes s cs exit e =
    let through : GoesOnThrough s cs exit = subst (λ (x : State). GoesOnThrough s cs x) (sym e) (through_run s cs) in
    record { promise = through; made = λ words mark m. through_made words mark _ _ _ m through }

-- and the slip that is still held is withdrawn
module _ (s : State) (rs : List Asked) (middle : State) (h : Option ℕ)
    (e : ◌≡◌ {A = Session} (record { bench = middle; held = h }) (plays (record { bench = s; held = None }) rs)) where
  pub closed : (exit : State) → exit ≡ run_on middle (closing h) → exit ≡ run_on s (all_calls s rs)
  closed exit k =
      let t : Session = record { bench = s; held = None } in
      k ∙ ap (λ (u : Session). run_on u.bench (closing u.held)) e ∙ ap (λ x. run_on x (closing (plays t rs).held)) (plays_run t rs)
      ∙ sym (run_on_append s (calls_made t rs) (closing (plays t rs).held))

  -- so it is the slip of that bench
  pub fits_held : Fits middle h
  fits_held = subst (λ (u : Session). Fits u.bench u.held) (sym e) (fits_plays (record { bench = s; held = None }) rs tt)

pub never_refused : (r : Result Unit Declined) (v : Verdict) → told_slip r ≡ v → v ≡ fine → IsOk r
never_refused (Ok x) v a b = refl
never_refused (Err d) v a b =
    let z : declined (number_of d.fault) (place_of d.fault) ≡ fine = a ∙ b in
    cc
