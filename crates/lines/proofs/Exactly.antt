-- Reading gives an outcome exactly where the text is as that outcome tells.
use Rattle.std.proofs.Common.{◌≡◌, ℕ, zero, suc, ◌+◌, ◌-◌, ◌*◌, ◌<◌, ◌≤◌, true, ◌&&◌, leb, List, [], ◌∷◌, ◌++◌, length, get_or, take, drop, Some, None, Option, Result, sym, refl, ap, ◌∙◌, subst, inl, inr, append_assoc, arith}
use Rattle.std.specs.Result as results
use Rattle.std.specs.List.{flat_map, AllByRecursion}
use Rattle.std.proofs.ByRecursion.{All-take, All-drop}
use Rattle.std.proofs.lemmas.List.{length-take-le, length-drop, append-nil, take_at}
use Rattle.std.proofs.lemmas.Option.{MatchOption-at_some}
use Rattle.std.proofs.lemmas.Bool.{and_from, le-leb, cases_Bool, cond_both}
use Rattle.mesh.specs.Mesh.{Mesh, Counted}
use Rattle.mesh.specs.declared.fault.Fault.{Fault}
use Rattle.mesh.specs.declared.fault.Fault.TheVariants.{BadLine, TooShort}
use Rattle.lines.specs.declared.reader.Counts.{Counts}
use Rattle.lines.specs.Laws.{TextOf, HasRoom, Opens, Refuses, no_counts, no_room, no_quad, no_start, surplus, Tells, ReadingIsExact, mesh_in, Images}
use Rattle.lines.specs.Lines.{Line, NoLine, Begins}
use Rattle.lines.specs.Reading.{Rows, good, bad, after, line, lines, mesh_read, Room, roomy, Reading, accepted, refused, starts_read, quads_read, body_read, opened, reading, room, laid, answer, Holds}
use Rattle.lines.specs.Text.{line_text, quad_rows, start_rows, mesh_text, WordSized}
use Rattle.lines.proofs.Bodies as bodies
use Rattle.lines.proofs.Finds.{line_right, line_finds, line_none}
use Rattle.lines.proofs.RowsRead.{afters, afters_good, afters_bad, two_words}
use Rattle.lines.proofs.TextRows.{rows_again, starts_again, tables_again, quad_rows_right, starts_back, start_rows_count, start_rows_right, joined_length, joined_sized}

-- ---- lines in a row
module _ (a b k : ℕ) where
  -- right lines are read one after the other, and then what comes after them
  lines_over : (rows : List (List ℕ)) (j : ℕ) (s t : List ℕ) → Begins a b k s rows t → lines a b k (length rows + j) s ≡ afters rows (lines a b k j t)
  unfolding lines
  lines_over [] j s t g = let e : 0 + j ≡ j = omega arith in (λ i. lines a b k (e i) (g.text i))
  lines_over (ns ∷ rows) j s t g =
      let e : length (ns ∷ rows) + j ≡ suc (length rows + j) = omega arith in
      let u = flat_map (line_text a b) rows ++ t in
      let l : Line a b s ns u = record { small = g.right.0.1; text = g.text ∙ append_assoc (line_text a b ns) (flat_map (line_text a b) rows) t } in
      let f : line a b k s ≡ Some (ns, u) = ap (λ (n : ℕ). line a b n s) (sym g.right.0.0) ∙ line_finds a b s ns u l in
      ap (λ (n : ℕ). lines a b k n s) e
      ∙ ap (λ (o : Option (List ℕ × List ℕ)). elim o [ None ↦ bad 0 | Some p ↦ after p.0 (lines a b k (length rows + j) p.1) ]) f
      ∙ ap (after ns) (lines_over rows j u t (record { right = g.right.1; text = refl }))

  pub lines_good : (n : ℕ) (rows : List (List ℕ)) (s t : List ℕ) → Begins a b k s rows t → length rows ≡ n → lines a b k n s ≡ good rows t
  unfolding lines
  lines_good n rows s t g e =
      let z : n ≡ length rows + 0 = omega arith in
      ap (λ (m : ℕ). lines a b k m s) z ∙ lines_over rows 0 s t g ∙ afters_good rows t

  pub lines_bad : (n : ℕ) (rows : List (List ℕ)) (s t : List ℕ) → Begins a b k s rows t → length rows < n → NoLine a b k t → lines a b k n s ≡ bad (length rows)
  unfolding lines
  lines_bad n rows s t g h none = go n (split n (length rows) h)
    where
      split : (n i : ℕ) → i < n → (j : ℕ) × (n ≡ i + suc j)
      split n i h = (n - (i + 1), omega arith)

      go : (n : ℕ) → (j : ℕ) × (n ≡ length rows + suc j) → lines a b k n s ≡ bad (length rows)
      go n p =
          ap (λ (m : ℕ). lines a b k m s) p.1
          ∙ lines_over rows (suc p.0) s t g
          ∙ ap (λ (o : Option (List ℕ × List ℕ)). afters rows (elim o [ None ↦ bad 0 | Some q ↦ after q.0 (lines a b k p.0 q.1) ])) (line_none a b k t none)
          ∙ afters_bad rows

  -- what reading so many lines tells
  pub record Stops (n i : ℕ) (s : List ℕ) : Type 0 where
    pub rows : List (List ℕ)
    pub rest : List ℕ
    pub before : Begins a b k s rows rest
    pub place : length rows ≡ i
    pub short : i < n
    pub none : NoLine a b k rest

  abbrev Gives : ℕ → List ℕ → Rows → Type 0
  Gives n s (good rows t) = (length rows ≡ n) × Begins a b k s rows t
  Gives n s (bad i) = Stops n i s

  begins_more : (s ns u : List ℕ) (rows : List (List ℕ)) (t : List ℕ) → length ns ≡ k → Line a b s ns u → Begins a b k u rows t → Begins a b k s (ns ∷ rows) t
  begins_more s ns u rows t e l g = record {
    right = ((e, l.small), g.right);
    text = l.text ∙ ap (λ (x : List ℕ). line_text a b ns ++ x) g.text ∙ sym (append_assoc (line_text a b ns) (flat_map (line_text a b) rows) t);
  }

  gives_more : (n : ℕ) (s ns u : List ℕ) (x : Rows) → length ns ≡ k → Line a b s ns u → Gives n u x → Gives (suc n) s (after ns x)
  gives_more n s ns u (good rows t) e l g = (ap suc g.0, begins_more s ns u rows t e l g.1)
  gives_more n s ns u (bad i) e l g = record {
    rows = ns ∷ g.rows;
    rest = g.rest;
    before = begins_more s ns u g.rows g.rest e l g.before;
    place = ap suc g.place;
    short = let h = g.short in omega arith;
    none = g.none;
  }

  pub lines_give : (n : ℕ) (s : List ℕ) → Gives n s (lines a b k n s)
  unfolding lines
  lines_give zero s = (refl, record { right = tt; text = refl })
  lines_give (suc n) s = go (line a b k s) refl (λ u. lines_give n u)
    where
      go : (o : Option (List ℕ × List ℕ)) → line a b k s ≡ o → ((u : List ℕ) → Gives n u (lines a b k n u)) → Gives (suc n) s (elim o [ None ↦ bad 0 | Some p ↦ after p.0 (lines a b k n p.1) ])
      go None e more = record {
        rows = [];
        rest = s;
        before = record { right = tt; text = refl };
        place = refl;
        short = omega arith;
        none = λ ns t l w.
            let f : line a b k s ≡ Some (ns, t) = ap (λ (m : ℕ). line a b m s) (sym l) ∙ line_finds a b s ns t w in
            let z : ◌≡◌ {A = ℕ} 0 1 = cc in
            omega arith;
      }
      go (Some p) e more =
          let c = MatchOption-at_some (Unit {0}) (λ q. (length q.0 ≡ k) × Line a b s q.0 q.1) p e (line_right a b k s) in
          gives_more n s p.0 p.1 (lines a b k n p.1) c.0 c.1 (more p.1)

-- ---- room
room_roomy : (f v : ℕ) (r : Room) → HasRoom f v r → roomy f v r ≡ true
unfolding roomy
room_roomy f v r h =
    and_from (leb (4 * f) r.corner_room && leb (2 * f) r.friend_room) (leb (2 * f) r.mark_room && leb v r.start_room)
    (and_from (leb (4 * f) r.corner_room) (leb (2 * f) r.friend_room) (le-leb (4 * f) r.corner_room h.corners_fit) (le-leb (2 * f) r.friend_room h.friends_fit))
    (and_from (leb (2 * f) r.mark_room) (leb v r.start_room) (le-leb (2 * f) r.mark_room h.marks_fit) (le-leb v r.start_room h.starts_fit))

roomy_room : (f v : ℕ) (r : Room) → roomy f v r ≡ true → HasRoom f v r
roomy_room f v r e = let p = bodies.roomy_parts f v r e in record { corners_fit = p.0; friends_fit = p.1; marks_fit = p.2; starts_fit = p.3 }

-- ---- from what the outcome tells to the outcome
module _ (s : List ℕ) (r : Room) where
  opened_body : (f v : ℕ) (t : List ℕ) → Opens s r f v t → reading s r ≡ body_read f v t
  opened_body f v t o = bodies.with_room s r f v t (line_finds 48 48 s (f ∷ (v ∷ [])) t o.counts) (room_roomy f v r o.fits)

  refuses_reading : (x : Fault) → Refuses s r x → reading s r ≡ refused x
  refuses_reading x (no_counts none) = bodies.no_heading s r (line_none 48 48 2 s none)
  refuses_reading x (no_room f v t l none) =
      bodies.no_room s r f v t (line_finds 48 48 s (f ∷ (v ∷ [])) t l)
      (elim (cases_Bool (roomy f v r)) [ inl y ↦ absurd (none (roomy_room f v r y)) | inr n ↦ n ])
  refuses_reading x (no_quad f v t quads u o g h none) = opened_body f v t o ∙ bodies.quad_missing f v t (length quads) (lines_bad 48 49 8 f quads t u g h none)
  refuses_reading x (no_start f v t quads u starts w o g e k h none) =
      opened_body f v t o ∙ bodies.start_missing f v t quads u (lines_good 48 49 8 f quads t u g e) (length starts) (lines_bad 48 50 1 v starts u w k h none)
  refuses_reading x (surplus f v t quads u starts y w o g e k l) =
      opened_body f v t o ∙ bodies.surplus f v t quads u (lines_good 48 49 8 f quads t u g e) starts (y ∷ w) (lines_good 48 50 1 v starts u (y ∷ w) k l) (omega arith)

  text_reading : (m : Mesh) → TextOf m s → HasRoom m.quads m.points r → reading s r ≡ accepted m
  unfolding mesh_text mesh_read
  text_reading m x h =
      let f = m.quads in
      let v = m.points in
      let c = x.counted in
      let w = x.writable in
      let quads = quad_rows f m.corners m.friends m.marks in
      let starts = start_rows m.starts in
      let u = flat_map (line_text 48 50) starts in
      let t = flat_map (line_text 48 49) quads ++ u in
      let o : Opens s r f v t = record { counts = record { small = (w.quads_fit, (w.points_fit, tt)); text = x.text }; fits = h } in
      let back = tables_again f m.corners m.friends m.marks c.corner_count c.friend_count c.mark_count in
      let q = lines_good 48 49 8 f quads t u (record { right = quad_rows_right f m.corners m.friends m.marks c.corner_count c.friend_count c.mark_count w.corners_fit w.friends_fit w.marks_fit; text = refl }) back.count in
      let p = lines_good 48 50 1 v starts u [] (record { right = start_rows_right m.starts w.starts_fit; text = sym (append-nil u) }) (start_rows_count m.starts ∙ c.start_count) in
      opened_body f v t o
      ∙ bodies.all_there f v t quads u q starts p
      ∙ (λ i. accepted (record { quads = f; points = v; corners = back.corners_back i; friends = back.friends_back i; marks = back.marks_back i; starts = starts_back m.starts i }))

  told_reading : (o : Reading) → Tells s r o → reading s r ≡ o
  told_reading (accepted m) h = text_reading m h.0 h.1
  told_reading (refused x) h = refuses_reading x h

-- ---- from the outcome to what it tells
sized_take : (n : ℕ) (ns : List ℕ) → AllByRecursion WordSized ns → AllByRecursion WordSized (take n ns)
sized_take n ns a = All-take WordSized n ns a

sized_part : (i n : ℕ) (ns : List ℕ) → AllByRecursion WordSized ns → AllByRecursion WordSized (take n (drop i ns))
sized_part i n ns a = All-take WordSized n (drop i ns) (All-drop WordSized i ns a)

corners_long : (ns : List ℕ) → length ns ≡ 8 → length (take 4 ns) ≡ 4
corners_long ns e = length-take-le 4 ns (omega arith)

pairs_long : (i : ℕ) → i + 2 ≤ 8 → (ns : List ℕ) → length ns ≡ 8 → length (take 2 (drop i ns)) ≡ 2
pairs_long i h ns e = let d = length-drop i ns in length-take-le 2 (drop i ns) (omega arith)

rows_text : (f v : ℕ) (s t u : List ℕ) (quads starts : List (List ℕ)) → Line 48 48 s (f ∷ (v ∷ [])) t → Begins 48 49 8 t quads u → length quads ≡ f → Begins 48 50 1 u starts [] → length starts ≡ v → TextOf (mesh_read f v quads starts) s
unfolding mesh_text mesh_read
rows_text f v s t u quads starts l g e k n =
    let a = g.right in
    let b = k.right in
    let lc = joined_length 8 4 (λ ns. take 4 ns) corners_long (sized_take 4) quads a in
    let lf = joined_length 8 2 (λ ns. take 2 (drop 4 ns)) (pairs_long 4 (omega arith)) (sized_part 4 2) quads a in
    let lm = joined_length 8 2 (λ ns. take 2 (drop 6 ns)) (pairs_long 6 (omega arith)) (sized_part 6 2) quads a in
    let ls = joined_length 1 1 (λ ns. ns) (λ ns x. x) (λ ns x. x) starts b in
    let cs = flat_map (λ ns. take 4 ns) quads in
    let fs = flat_map (λ ns. take 2 (drop 4 ns)) quads in
    let ms = flat_map (λ ns. take 2 (drop 6 ns)) quads in
    let back : quad_rows f cs fs ms ≡ quads = ap (λ (n : ℕ). quad_rows n cs fs ms) (sym e) ∙ rows_again quads a in
    record {
      counted = record { corner_count = omega arith; friend_count = omega arith; mark_count = omega arith; start_count = omega arith };
      writable = record {
        quads_fit = l.small.0;
        points_fit = l.small.1.0;
        corners_fit = joined_sized 8 4 (λ ns. take 4 ns) corners_long (sized_take 4) quads a;
        friends_fit = joined_sized 8 2 (λ ns. take 2 (drop 4 ns)) (pairs_long 4 (omega arith)) (sized_part 4 2) quads a;
        marks_fit = joined_sized 8 2 (λ ns. take 2 (drop 6 ns)) (pairs_long 6 (omega arith)) (sized_part 6 2) quads a;
        starts_fit = joined_sized 1 1 (λ ns. ns) (λ ns x. x) (λ ns x. x) starts b;
      };
      text =
          l.text
          ∙ ap (λ (x : List ℕ). line_text 48 48 (f ∷ (v ∷ [])) ++ x) (g.text ∙ ap (λ (x : List ℕ). flat_map (line_text 48 49) quads ++ x) (k.text ∙ append-nil (flat_map (line_text 48 50) starts)))
          ∙ (λ i. line_text 48 48 (f ∷ (v ∷ [])) ++ (flat_map (line_text 48 49) (sym back i) ++ flat_map (line_text 48 50) (sym (starts_again starts b) i)));
    }

module _ (s : List ℕ) (r : Room) (f v : ℕ) (t : List ℕ) (o : Opens s r f v t) where
  room_told : (quads starts : List (List ℕ)) → HasRoom (mesh_read f v quads starts).quads (mesh_read f v quads starts).points r
  unfolding mesh_read
  room_told quads starts = o.fits

  starts_tell : (quads : List (List ℕ)) (u : List ℕ) (y : Rows) → length quads ≡ f → Begins 48 49 8 t quads u → Gives 48 50 1 v u y → Tells s r (starts_read f v quads y)
  starts_tell quads u (bad i) e g k =
      let P : ℕ → Type 0 = λ n. Refuses s r (BadLine (1 + f + n)) in
      let h = k.short in
      let p = k.place in
      subst P p (no_start f v t quads u k.rows k.rest o g e k.before (omega arith) k.none)
  starts_tell quads u (good starts []) e g k = (rows_text f v s t u quads starts o.counts g e k.1 k.0, room_told quads starts)
  starts_tell quads u (good starts (x ∷ w)) e g k = surplus f v t quads u starts x w o g e k.1 k.0

  quads_tell : (x : Rows) → Gives 48 49 8 f t x → Tells s r (quads_read f v x)
  quads_tell (bad i) g =
      let P : ℕ → Type 0 = λ n. Refuses s r (BadLine (1 + n)) in
      let h = g.short in
      let p = g.place in
      subst P p (no_quad f v t g.rows g.rest o g.before (omega arith) g.none)
  quads_tell (good quads u) g = starts_tell quads u (lines 48 50 1 v u) g.0 g.1 (lines_give 48 50 1 v u)

  body_tells : Tells s r (body_read f v t)
  unfolding body_read
  body_tells = quads_tell (lines 48 49 8 f t) (lines_give 48 49 8 f t)

opened_tells : (s : List ℕ) (r : Room) (o : Option (List ℕ × List ℕ)) → line 48 48 2 s ≡ o → Tells s r (opened r o)
opened_tells s r None e = no_counts (λ ns t l w.
    let f : line 48 48 2 s ≡ Some (ns, t) = ap (λ (m : ℕ). line 48 48 m s) (sym l) ∙ line_finds 48 48 s ns t w in
    let z : ◌≡◌ {A = ℕ} 0 1 = cc in
    omega arith)
opened_tells s r (Some p) e =
    let f = get_or p.0 0 0 in
    let v = get_or p.0 1 0 in
    let c = MatchOption-at_some (Unit {0}) (λ q. (length q.0 ≡ 2) × Line 48 48 s q.0 q.1) p e (line_right 48 48 2 s) in
    let P : List ℕ → Type 0 = λ ns. Line 48 48 s ns p.1 in
    let l = subst P (two_words p.0 c.0) c.1 in
    cond_both (roomy f v r) (body_read f v p.1) (refused TooShort) (Tells s r)
    (λ y. body_tells s r f v p.1 (record { counts = l; fits = roomy_room f v r y }))
    (λ n. no_room f v p.1 l (λ h. let y = room_roomy f v r h in let z : ◌≡◌ {A = ℕ} 0 1 = cc in omega arith))

reading_tells : (s : List ℕ) (r : Room) → Tells s r (reading s r)
unfolding reading
reading_tells s r = opened_tells s r (line 48 48 2 s) refl

pub reading_is_exact : ReadingIsExact
reading_is_exact s r o = record {
  only_so = λ e. let P : Reading → Type 0 = Tells s r in subst P e (reading_tells s r);
  always_so = told_reading s r o;
}

-- ---- what that says of a call
-- tables with the words of m laid over their fronts hold m
mesh_laid : (m : Mesh) (cs fs ms ss cs' fs' ms' ss' : List ℕ) → Counted m → Holds (accepted m) cs fs ms ss cs' fs' ms' ss' → mesh_in (record { quads = m.quads; points = m.points }) cs' fs' ms' ss' ≡ m
mesh_laid m cs fs ms ss cs' fs' ms' ss' c h =
    let at : (ws t u : List ℕ) (n : ℕ) → length ws ≡ n → u ≡ laid ws t → take n u ≡ ws = λ ws t u n l e. ap (take n) e ∙ take_at ws (drop (length ws) t) n l in
    λ i. record {
      quads = m.quads;
      points = m.points;
      corners = at m.corners cs cs' (4 * m.quads) c.corner_count h.corners_hold i;
      friends = at m.friends fs fs' (2 * m.quads) c.friend_count h.friends_hold i;
      marks = at m.marks ms ms' (2 * m.quads) c.mark_count h.marks_hold i;
      starts = at m.starts ss ss' m.points c.start_count h.starts_hold i;
    }

module _ (s cs fs ms ss cs' fs' ms' ss' : List ℕ) where
  is_text : (o : Reading) → Tells s (room cs fs ms ss) o → Holds o cs fs ms ss cs' fs' ms' ss' → results.MatchResult (answer o) (λ n. TextOf (mesh_in n cs' fs' ms' ss') s) (Refuses s (room cs fs ms ss))
  is_text (accepted m) t h = let P : Mesh → Type 0 = λ x. TextOf x s in subst P (sym (mesh_laid m cs fs ms ss cs' fs' ms' ss' t.0.counted h)) t.0
  is_text (refused x) t h = t

  pub images : (a : Result Counts Fault) → a ≡ answer (reading s (room cs fs ms ss)) → Holds (reading s (room cs fs ms ss)) cs fs ms ss cs' fs' ms' ss' → Images s cs fs ms ss cs' fs' ms' ss' a
  images a e h =
      let r = room cs fs ms ss in
      let P : Result Counts Fault → Type 0 = λ x. results.MatchResult x (λ n. TextOf (mesh_in n cs' fs' ms' ss') s) (Refuses s r) in
      let Q : Reading → Type 0 = λ o. Holds o cs fs ms ss cs' fs' ms' ss' in
      record {
        is_text = subst P (sym e) (is_text (reading s r) (reading_tells s r) h);
        takes_text = λ m t f. let g = text_reading s r m t f in (e ∙ ap answer g, subst Q g h);
      }
