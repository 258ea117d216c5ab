-- The promise of a bench: what holds after any calls, made in any order, repeated or refused.
use Rattle.std.specs.Prelude.{◌≡◌, ℕ, ◌⊎◌, List, Some, None, slice_index}
use Rattle.std.specs.List.{ContainsAt as Has}
use Rattle.mesh.specs.Mesh.{Mesh, Lawful}
use Rattle.mesh.specs.Refusals.{declined}
use Rattle.refinement.specs.Tasks.{Task, TaskOf, number, blank, runs, level}
use Rattle.chain.specs.Calls.{Call, Work, State, refusal, next, run}
use Rattle.chain.specs.History.{latest_mesh, finishes, tasks_since, told_bench, carried_out}
use Rattle.chain.specs.Level.{Whole, Keeps}

-- The level in work w of the standing level r, after the tasks ts: they wrote its words on blank tables,
-- and of each task the bench knows whether it has run.
pub record Worked (r : Mesh) (ts : List Task) (w : Work) : Type 0 where
  pub tables_are : w.tables ≡ runs r ts (blank r)
  pub ran_are : (t : Task) → TaskOf r t →
      (Has ts t × (slice_index w.ran (number r t) ≡ 1)) ⊎ ((Has ts t → ⊥) × (slice_index w.ran (number r t) ≡ 0))

-- A bench made with so many words and this mark number, on which the calls `done` were carried out, the latest first.
pub record Promise (words mark : ℕ) (done : List Call) (bench : State) : Type 0 where
  -- Before a load there is no standing level.
  pub none_before_load : latest_mesh done ≡ None → bench.standing ≡ None
  -- After one it is, word for word, the mesh loaded latest, refined once for each finish since. (`level m k` is m refined k times.
  -- A mesh refined once is what its tasks write on blank tables, each run once by number, quads first.)
  pub standing_is : (m : Mesh) → latest_mesh done ≡ Some m → bench.standing ≡ Some (level m (finishes done))
  -- It would pass every check of a load.
  pub standing_lawful : (r : Mesh) → bench.standing ≡ Some r → Lawful r
  -- It is whole: each off-edge has one on-edge for friend, run the other way, and no on-edge serves twice;
  -- the walk at each point meets every corner of that point once.
  pub standing_whole : (r : Mesh) → bench.standing ≡ Some r → Whole r
  -- Points less quads equals the loaded mesh's; loaded points keep their count of corners, 2 to 64; later points have four.
  pub loaded_kept : (m : Mesh) → latest_mesh done ≡ Some m → Keeps m (finishes done)
  -- There is a level in work from a begin to its finish or withdraw, and it is what the tasks have written so far.
  pub none_in_work : tasks_since done ≡ None → bench.work ≡ None
  pub work_is : (ts : List Task) → tasks_since done ≡ Some ts →
      (r : Mesh) × (w : Work) × (bench.standing ≡ Some r) × (bench.work ≡ Some w) × Worked r ts w
  -- A call that is refused leaves the bench as it was.
  pub refused_leaves : (c : Call) (n p : ℕ) → refusal bench c ≡ declined n p → next bench c ≡ bench
  -- And nothing else is in the bench: all of it is told by its making and these calls.
  pub all_told : bench ≡ told_bench words mark done

-- It holds after every list of calls, on a bench made with any number of words and any mark number.
abbrev pub EveryChainKeepsTheMesh : Type 0
EveryChainKeepsTheMesh = (words mark : ℕ) (calls : List Call) → Promise words mark (carried_out words mark calls) (run words mark calls)
