-- Requests and what they give, as rows of numbers.
use Rattle.std.specs.Prelude.{ℕ, ◌+◌, cond, List, [], ◌∷◌, ◌==◌, slice_index}
use Rattle.layout.specs.Layout.{block}
use Rattle.requests.specs.Sessions.{Asked, first_asked, to_load, to_begin, to_run_quad, to_run_point, to_finish, to_withdraw, Reply, no_call, done, tasks_left, refused}

-- a load of four tables side by side in a store of words, from word `at` on
abbrev pub load_from : List ℕ → ℕ → ℕ → ℕ → ℕ → ℕ → Asked
load_from store at corners friends marks starts =
    to_load (block store at corners) (block store (at + corners) friends)
    (block store (at + corners + friends) marks) (block store (at + corners + friends + marks) starts)

-- A row has its kind in front. 0 is a load of tables in the store: where they begin, and how many words each has; 1 a begin; 2 the task of a quad,
-- by its number; 3 that of a point; 4 a finish; and every other kind a withdraw.
abbrev pub by_kind : List ℕ → ℕ → ℕ → ℕ → ℕ → ℕ → ℕ → Asked
by_kind store kind at corners friends marks starts =
    cond (kind == 0) (load_from store at corners friends marks starts)
    (cond (kind == 1) to_begin
    (cond (kind == 2) (to_run_quad at)
    (cond (kind == 3) (to_run_point at)
    (cond (kind == 4) to_finish to_withdraw))))

abbrev pub asked_by : List ℕ → List ℕ → Asked
asked_by store row =
    by_kind store (slice_index row 0) (slice_index row 1) (slice_index row 2) (slice_index row 3) (slice_index row 4) (slice_index row 5)

-- what the first n rows ask
abbrev pub requests_of : List ℕ → ℕ → List (List ℕ) → List Asked
requests_of store = first_asked (asked_by store)

-- what a request gave: 0 no call, 1 done, 2 and the tasks that are left, 3 and the number and the place of the refusal
abbrev pub numbers_of : Reply → List ℕ
numbers_of no_call = 0 ∷ 0 ∷ 0 ∷ []
numbers_of done = 1 ∷ 0 ∷ 0 ∷ []
numbers_of (tasks_left n) = 2 ∷ n ∷ 0 ∷ []
numbers_of (refused k p) = 3 ∷ k ∷ p ∷ []
