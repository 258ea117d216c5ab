use Rattle.std.proofs.Common.{◌≡◌, ℕ, [], ◌∷◌, length, ap, arith}
use Rattle.mesh.specs.Causes.{mesh_of}
use Rattle.tables.specs.Lent.{mesh}
use Rattle.text.proofs.LinesOf.{bytes, text_bytes}
use Rattle.text.proofs.Sizes.{sizes}
use Rattle.text.proofs.level.text_size.Goals as goal

pub overflow_cast-points : goal.overflow_cast-points
overflow_cast-points c = let s = sizes c.args.level.now.tables c.args.level.now.lawful in record { fits = omega arith }

pub words_size-corners-requires : goal.words_size-corners-requires
words_size-corners-requires c = let s = sizes c.args.level.now.tables c.args.level.now.lawful in omega arith

pub words_size-friends-requires : goal.words_size-friends-requires
words_size-friends-requires c = let s = sizes c.args.level.now.tables c.args.level.now.lawful in omega arith

pub words_size-marks-requires : goal.words_size-marks-requires
words_size-marks-requires c = let s = sizes c.args.level.now.tables c.args.level.now.lawful in omega arith

pub words_size-starts-requires : goal.words_size-starts-requires
words_size-starts-requires c = let s = sizes c.args.level.now.tables c.args.level.now.lawful in omega arith

pub overflow_add-result-3 : goal.overflow_add-result-3
overflow_add-result-3 c = let s = sizes c.args.level.now.tables c.args.level.now.lawful in record { fits = omega arith }

pub overflow_add-result-4 : goal.overflow_add-result-4
overflow_add-result-4 c = let s = sizes c.args.level.now.tables c.args.level.now.lawful in record { fits = omega arith }

pub overflow_add-result-5 : goal.overflow_add-result-5
overflow_add-result-5 c = let s = sizes c.args.level.now.tables c.args.level.now.lawful in record { fits = omega arith }

pub overflow_add-result-6 : goal.overflow_add-result-6
overflow_add-result-6 c = let s = sizes c.args.level.now.tables c.args.level.now.lawful in record { fits = omega arith }

pub overflow_add-result-7 : goal.overflow_add-result-7
overflow_add-result-7 c = let s = sizes c.args.level.now.tables c.args.level.now.lawful in record { fits = omega arith }

pub returns : goal.returns
unfolding mesh_of
returns c =
    let t = text_bytes (mesh c.args.level.now.tables) c.args.level.now.lawful.sound.counted in
    let q : c.quads-quads.result ≡ (mesh c.args.level.now.tables).quads = c.quads-quads.ensures in
    let w = ap (λ (x : ℕ). bytes (x ∷ (length c.args.level.now.tables.starts.now ∷ []))) q in
    omega arith

pub overflow_add-result-2 : goal.overflow_add-result-2
overflow_add-result-2 c = let s = sizes c.args.level.now.tables c.args.level.now.lawful in record { fits = omega arith }

pub overflow_mul-result : goal.overflow_mul-result
overflow_mul-result c = let s = sizes c.args.level.now.tables c.args.level.now.lawful in record { fits = omega arith }
