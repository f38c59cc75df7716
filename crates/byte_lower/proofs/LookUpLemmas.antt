-- What the list of a look-up does.
use Rattle.std.proofs.Common.{◌≡◌, ◌≢◌, ℕ, zero, suc, ◌+◌, ◌%◌, ◌<◌, ◌≤◌, Bool, true, false, List, [], ◌∷◌, ◌++◌, drop, length, map, Option, Some, None, ℤ, pos, negsuc, refl, sym, ap, subst, ◌∙◌, arith}
use Rattle.std.specs.Prelude.{All, slice_get, slice_index_or, nat_lt, ◌==◌}
use Rattle.std.proofs.lemmas.Bool.Decides.{nat_tests}
use Rattle.std.proofs.lemmas.List.{length-map}
use Rattle.std.proofs.lemmas.List.Elements.{All-head, All-tail}
use Rattle.chip_tables.specs.declared.scratch.Scratch.{Scratch}
use Rattle.chip_tables.specs.declared.target.Target.{Target}
use Rattle.chip_tables.specs.declared.target.Target.TheVariants.{F628, F877, Mega16, Interp, AnsiC}
use Rattle.ladder_meaning.specs.Device.{word_of}
use Rattle.ladder_meaning.specs.Numbers.{IsNumber, value_at}
use Rattle.ladder_meaning.specs.declared.reading.Reading.{Reading}
use Rattle.int_code.specs.Meaning.{looked_up}
use Rattle.int_code.specs.Store as int
use Rattle.int_code.specs.Store.{number_of, with_number}
use Rattle.int_code.specs.WellFormed.{IsNumSource}
use Rattle.int_code.specs.declared.op.NumSource.{NumSource}
use Rattle.int_code.specs.declared.op.NumSource.TheVariants.{V, N}
use Rattle.byte_code.specs.declared.prim.BytePrim.TheVariants.{Label, Compare}
use Rattle.byte_code.specs.declared.prim.CompareOp.{CompareOp}
use Rattle.byte_code.specs.declared.prim.CompareOp.TheVariants as compares
use Rattle.byte_code.specs.declared.prim.FlagKind.{FlagKind}
use Rattle.byte_code.specs.declared.prim.FlagKind.TheVariants as kind
use Rattle.byte_code.specs.declared.prim.Paced.{Paced}
use Rattle.byte_code.specs.declared.prim.Test.TheVariants as test
use Rattle.byte_code.specs.declared.prim.WordOp.TheVariants as words
use Rattle.byte_code.specs.declared.prim.WordSource.{WordSource}
use Rattle.byte_code.specs.declared.prim.WordSource.TheVariants as word
use Rattle.byte_code.specs.declared.state.Bytes.{Bytes}
use Rattle.byte_code.specs.declared.store.Store.{Store}
use Rattle.byte_code.specs.Machine.{goes_to, label_place, next_with}
use Rattle.byte_code.specs.Store.{cell, word_at, word_from, with_cell, with_word}
use Rattle.byte_code.specs.Table.{compare_effect, flagged, plain, same}
use Rattle.byte_routines.proofs.CellLemmas.{cell_put, cell_kept, word_put, word_put_other, words_kept}
use Rattle.byte_lower.proofs.GoLemmas.{word_go, compare_go, label_go, table_go, where_go}
use Rattle.byte_lower.proofs.RouteLemmas.{along, Reaches, Ahead, HasNoNames, behind, beyond, found, pass_all}
use Rattle.byte_lower.proofs.StoreLemmas.{Apart, Good, any_flag, others_kept, word_written, number_read}
use Rattle.byte_lower.proofs.TableLemmas.{Got, got, none_past, value_is}
use Rattle.byte_lower.proofs.WordLemmas.{word_small}
use Rattle.byte_lower.specs.Layout.{own_cells, word_cell, room_of, HasPins}
use Rattle.byte_lower.specs.Lists.{paced, number, word_in, put, put_known, put_index, put_taken, take_value, compare_equal, compare_below, jump_where, look_up}
use Rattle.byte_lower.specs.Stands.{IsWordOf}
use Rattle.byte_lower.specs.declared.layout.Layout.{Layout}

-- the words of the compiler's own are in data memory
record InMemory (s : Scratch) : Type 0 where
  left : s.left + 1 < 1120
  outcome : s.outcome + 1 < 1120

own_in_memory : (t : Target) → InMemory (own_cells t)
own_in_memory F628 = record { left = omega arith; outcome = omega arith }
own_in_memory F877 = record { left = omega arith; outcome = omega arith }
own_in_memory Mega16 = record { left = omega arith; outcome = omega arith }
own_in_memory Interp = record { left = omega arith; outcome = omega arith }
own_in_memory AnsiC = record { left = omega arith; outcome = omega arith }

low_put : (d : Store) (a n : ℕ) → a + 1 < length d.cells → cell (with_word d a n) a ≡ n % 256
low_put d a n h =
    let apart : a ≢ a + 1 = λ e. omega (arith, e) in
    cell_kept (with_cell d a (n % 256)) (a + 1) _ a apart ∙ cell_put d a (n % 256) (omega (arith, h))

low_index : (n most : ℕ) → n < most → most ≤ 60 → n % 256 ≡ n
low_index n most h few = omega (arith, h, few)

is_below : (n most : ℕ) → nat_lt n most ≡ true → n < most
is_below n most e = grind (arith, nat_tests, e)

is_past : (n most : ℕ) → nat_lt n most ≡ false → most ≤ n
is_past n most e = grind (arith, nat_tests, e)

is_zero : (n : ℕ) → (n == 0) ≡ true → n ≡ 0
is_zero n e = grind (arith, nat_tests, e)

is_more : (n : ℕ) → (n == 0) ≡ false → 1 ≤ n
is_more n e = grind (arith, nat_tests, e)

holds_at : (values : List ℤ) (k : ℕ) (z : ℤ) → All IsNumber values → slice_get values k ≡ Some z → IsNumber z
holds_at [] k z h e = absurd (cc)
holds_at (x ∷ values) zero z h e = let same : x ≡ z = cc in subst IsNumber same (All-head IsNumber x values h)
holds_at (x ∷ values) (suc k) z h e = holds_at values k z (All-tail IsNumber x values h) e

itself : (l : ℕ) → (l == l) ≡ true
itself l = grind (arith, nat_tests)

no_values : (i : ℤ) → value_at [] i ≡ None
no_values (pos k) = refl
no_values (negsuc k) = refl

-- a value of a table is a number of 16 bits
value_holds : (values : List ℤ) (i z : ℤ) → All IsNumber values → value_at values i ≡ Some z → IsNumber z
value_holds values (pos k) z h e = holds_at values k z h e
value_holds values (negsuc k) z h e = absurd (cc)

-- the machine in front of a place, with bytes that stand for a store
pub record Before (o : Layout) (r : Reading) (place : ℕ) (t : int.Store) (s : Bytes) : Type 0 where
  pub closed : s.open_call ≡ None
  pub good : Good o r s.store t
  pub is_at : s.place ≡ place

module _ (code : List Paced) (o : Layout) (r : Reading) (apart : Apart o) (pins : HasPins o) (Goal : Bytes → Type 0) (last : ℕ) where
  abbrev Next : ℕ → int.Store → Type 0
  Next place t = (s : Bytes) → Before o r place t s → Reaches code Goal last s

  put_step : (at v : ℕ) (from : WordSource) (z : ℤ) (rest : List Paced) (t : int.Store) (s : Bytes) → Before o r at t s → v < o.plan.sizes.variables →
      IsWordOf z (word_from s.store from) → drop at code ≡ put o v from ∷ rest → Next (suc at) (with_number t v z) → Reaches code Goal last s
  put_step at v from z rest t s b h is e n =
      let d = with_word s.store (word_cell o v) (word_from s.store from) in
      word_go code Goal last s at rest b.is_at (words.Move (word_cell o v) from) e
      (n (next_with s (plain d)) (record {
        closed = b.closed;
        good = any_flag o r apart pins d (with_number t v z) None (word_written o r apart pins s.store t v z (word_from s.store from) h is b.good);
        is_at = ap suc b.is_at;
      }))

  label_step : (at l : ℕ) (rest : List Paced) (t : int.Store) (s : Bytes) → Before o r at t s → drop at code ≡ paced (Label l) ∷ rest → Next (suc at) t →
      Reaches code Goal last s
  label_step at l rest t s b e n =
      label_go code Goal last s at rest b.is_at l e
      (n (next_with s (plain s.store)) (record { closed = b.closed; good = any_flag o r apart pins s.store t None b.good; is_at = ap suc b.is_at }))

  -- a comparison, and the jump to a label behind where it is not so
  over_step : (at l end : ℕ) (op : CompareOp) (what : FlagKind) (x : Bool) (rest : List Paced) (t : int.Store) (s : Bytes) → Before o r at t s →
      compare_effect op s.store ≡ flagged s.store what x → drop at code ≡ paced (Compare op) ∷ jump_where what false l ∷ rest →
      label_place code l ≡ end → suc at < end → (x ≡ true → Next (suc (suc at)) t) → (x ≡ false → Next end t) → Reaches code Goal last s
  over_step at l end op what x rest t s b does e place up so other =
      let first = paced (Compare op) in
      let jump = jump_where what false l in
      let e1 = behind code at first (jump ∷ rest) e in
      compare_go code Goal last s at (jump ∷ rest) b.is_at op e (subst (λ y. Reaches code Goal last (next_with s y)) (sym does) (by x refl e1))
    where
      flag : Store
      flag = flagged s.store what x

      kept : Good o r flag t
      kept = any_flag o r apart pins s.store t flag.flag b.good

      further : suc at < label_place code l
      further = subst (λ n. suc at < n) (sym place) up

      by : (y : Bool) → x ≡ y → drop (suc at) code ≡ jump_where what false l ∷ rest → Reaches code Goal last (next_with s flag)
      by true f e1 =
          where_go code Goal last (next_with s flag) (suc at) rest (ap suc b.is_at) (test.Flag what false) l false e1 refl (ap (λ y. same y false) f) further
          (so f (next_with (next_with s flag) flag) (record { closed = b.closed; good = kept; is_at = ap (λ n. suc (suc n)) b.is_at }))
      by false f e1 =
          where_go code Goal last (next_with s flag) (suc at) rest (ap suc b.is_at) (test.Flag what false) l true e1 refl (ap (λ y. same y false) f) further
          (other f (goes_to (next_with s flag) flag (label_place code l)) (record { closed = b.closed; good = kept; is_at = place }))

  -- the label behind a stretch without one
  label_behind : (at l : ℕ) (ps rest : List Paced) → drop at code ≡ ps ++ paced (Label l) ∷ rest → HasNoNames ps → Ahead code at l →
      label_place code l ≡ along at ps
  label_behind at l ps rest e none ahead =
      found code (along at ps) l (paced (Label l)) rest (beyond code at ps (paced (Label l) ∷ rest) e) (itself l)
      (pass_all code at l ps (paced (Label l) ∷ rest) e none ahead)

  -- the index goes to the word that a table reads
  index_step : (at w : ℕ) (rest : List Paced) (t : int.Store) (s : Bytes) → Before o r at t s → drop at code ≡ put_index o w ∷ rest →
      ((s1 : Bytes) → Before o r (suc at) t s1 → cell s1.store (own_cells o.plan.target).outcome ≡ word_at s.store (word_cell o w) % 256 →
      Reaches code Goal last s1) → Reaches code Goal last s
  index_step at w rest t s b e n =
      let own = own_cells o.plan.target in
      let index = word_at s.store (word_cell o w) in
      let d = with_word s.store own.outcome index in
      let long : own.outcome + 1 < length s.store.cells = subst (λ m. own.outcome + 1 < m) (sym b.good.cells) (own_in_memory o.plan.target).outcome in
      word_go code Goal last s at rest b.is_at (words.Move own.outcome (word_in o w)) e
      (n (next_with s (plain d)) (record {
        closed = b.closed;
        good = others_kept o r apart pins s.store (plain d) t (λ c h. word_put_other s.store own.outcome index c h.outcome.0 h.outcome.1)
            (words_kept s.store own.outcome index ∙ b.good.cells) refl b.good;
        is_at = ap suc b.is_at;
      }) (low_put s.store own.outcome index long))

  -- a table leaves its value in the left word
  table_step : (at l k : ℕ) (values : List ℤ) (rest : List Paced) (t : int.Store) (s : Bytes) (g : Got values k) → Before o r at t s → k < length values →
      cell s.store (own_cells o.plan.target).outcome ≡ k → drop at code ≡ take_value values l ∷ rest →
      ((s1 : Bytes) → Before o r (suc at) t s1 → word_at s1.store (own_cells o.plan.target).left ≡ word_of g.value → Reaches code Goal last s1) →
      Reaches code Goal last s
  table_step at l k values rest t s g b h index e n =
      let own = own_cells o.plan.target in
      let ws = map word_of values in
      let d = with_word s.store own.left (word_of g.value) in
      let long : own.left + 1 < length s.store.cells = subst (λ m. own.left + 1 < m) (sym b.good.cells) (own_in_memory o.plan.target).left in
      let at_own : (x : Scratch) → x ≡ own → with_word s.store x.left (slice_index_or ws (cell s.store x.outcome) 0) ≡ with_word s.store own.left
      (slice_index_or ws (cell s.store own.outcome) 0) =
      λ x f. ap (λ (y : Scratch). with_word s.store y.left (slice_index_or ws (cell s.store y.outcome) 0)) f in
      let does : with_word s.store s.store.scratch.left (slice_index_or ws (cell s.store s.store.scratch.outcome) 0) ≡ d =
      at_own s.store.scratch b.good.scratch ∙ ap (λ m. with_word s.store own.left (slice_index_or ws m 0)) index ∙ ap (with_word s.store own.left) g.word in
      let fits : cell s.store s.store.scratch.outcome < length ws =
      subst (λ m. m < length ws) (sym (ap (λ (y : Scratch). cell s.store y.outcome) b.good.scratch ∙ index))
      (subst (λ m. k < m) (sym (length-map values word_of)) h) in
      table_go code Goal last s at rest b.is_at ws l e fits
      (subst (λ y. Reaches code Goal last (next_with s (plain y))) (sym does)
      (n (next_with s (plain d)) (record {
        closed = b.closed;
        good = others_kept o r apart pins s.store (plain d) t (λ c f. word_put_other s.store own.left (word_of g.value) c f.left.0 f.left.1)
            (words_kept s.store own.left (word_of g.value) ∙ b.good.cells) refl b.good;
        is_at = ap suc b.is_at;
      }) (word_put s.store own.left (word_of g.value) long (word_small g.value))))

  known_step : (at v : ℕ) (x : Option ℤ) (rest : List Paced) (t : int.Store) (s : Bytes) → Before o r at t s → v < o.plan.sizes.variables →
      ((z : ℤ) → x ≡ Some z → IsNumber z) → drop at code ≡ put_known o v x ++ rest → Next (along at (put_known o v x)) (looked_up t v x) →
      Reaches code Goal last s
  known_step at v None rest t s b h numbers e n = n s b
  known_step at v (Some z) rest t s b h numbers e n =
      put_step at v (number z) z rest t s b h (number_read s.store z (numbers z refl)) e n

  -- of one value
  one_step : (at l v w : ℕ) (z : ℤ) (rest : List Paced) (t : int.Store) (s : Bytes) → Before o r at t s → v < o.plan.sizes.variables →
      w < o.plan.sizes.variables → IsNumber z → Ahead code at l → drop at code ≡ look_up o v (V w) (z ∷ []) l ++ rest →
      Next (suc (suc (suc (suc at)))) (looked_up t v (value_at (z ∷ []) (t.number w))) → Reaches code Goal last s
  one_step at l v w z rest t s b h hw hz ahead e n =
      let index = word_at s.store (word_cell o w) in
      let is : IsWordOf (t.number w) index = b.good.stands.numbers w hw in
      let value : value_at (z ∷ []) (t.number w) ≡ slice_get (z ∷ []) index = value_is (z ∷ []) (t.number w) index is (omega arith) in
      let test = compare_equal o w (number (pos 0)) in
      let over = jump_where kind.Equal false l in
      let taken = put o v (number z) in
      let label = paced (Label l) in
      let e1 = beyond code at (test ∷ over ∷ []) (taken ∷ label ∷ rest) e in
      let e2 = beyond code at (test ∷ over ∷ taken ∷ []) (label ∷ rest) e in
      over_step at l (suc (suc (suc at))) (compares.Equal (word_cell o w) (number (pos 0))) kind.Equal (index == 0) (taken ∷ label ∷ rest) t s b refl e
      (label_behind at l (test ∷ over ∷ taken ∷ []) rest e ((λ m. refl), ((λ m. refl), ((λ m. refl), tt))) ahead) (omega arith)
      (λ f s1 b1. put_step (suc (suc at)) v (number z) z (label ∷ rest) t s1 b1 h (number_read s1.store z hz) e1
      (λ s2 b2. label_step (suc (suc (suc at))) l rest (with_number t v z) s2 b2 e2
      (subst (λ x. Next (suc (suc (suc (suc at)))) (looked_up t v x)) (value ∙ ap (slice_get (z ∷ [])) (is_zero index f)) n)))
      (λ f s1 b1. label_step (suc (suc (suc at))) l rest t s1 b1 e2
      (subst (λ x. Next (suc (suc (suc (suc at)))) (looked_up t v x)) (value ∙ none_past (z ∷ []) index (is_more index f)) n))

  -- of more
  some_step : (at l v w : ℕ) (x y : ℤ) (zs : List ℤ) (rest : List Paced) (t : int.Store) (s : Bytes) → Before o r at t s → v < o.plan.sizes.variables →
      w < o.plan.sizes.variables → All IsNumber (x ∷ y ∷ zs) → length (x ∷ y ∷ zs) ≤ 60 → Ahead code at l →
      drop at code ≡ look_up o v (V w) (x ∷ y ∷ zs) l ++ rest →
      Next (suc (suc (suc (suc (suc (suc at)))))) (looked_up t v (value_at (x ∷ y ∷ zs) (t.number w))) → Reaches code Goal last s
  some_step at l v w x y zs rest t s b h hw numbers few ahead e n =
      let values = x ∷ y ∷ zs in
      let most = length values in
      let index = word_at s.store (word_cell o w) in
      let is : IsWordOf (t.number w) index = b.good.stands.numbers w hw in
      let value : value_at values (t.number w) ≡ slice_get values index = value_is values (t.number w) index is few in
      let test = compare_below o w most in
      let over = jump_where kind.Below false l in
      let asked = put_index o w in
      let table = take_value values l in
      let taken = put_taken o v in
      let label = paced (Label l) in
      let to_asked = test ∷ over ∷ [] in
      let to_table = test ∷ over ∷ asked ∷ [] in
      let to_taken = test ∷ over ∷ asked ∷ table ∷ [] in
      let to_label = test ∷ over ∷ asked ∷ table ∷ taken ∷ [] in
      let e1 = beyond code at to_asked (asked ∷ table ∷ taken ∷ label ∷ rest) e in
      let e2 = beyond code at to_table (table ∷ taken ∷ label ∷ rest) e in
      let e3 = beyond code at to_taken (taken ∷ label ∷ rest) e in
      let e4 = beyond code at to_label (label ∷ rest) e in
      let none : HasNoNames to_label = ((λ m. refl), ((λ m. refl), ((λ m. refl), ((λ m. refl), ((λ m. refl), tt))))) in
      over_step at l (along at to_label) (compares.Below (word_cell o w) most) kind.Below (nat_lt index most) (asked ∷ table ∷ taken ∷ label ∷ rest) t s b
      refl e (label_behind at l to_label rest e none ahead) (omega arith)
      (λ f s1 b1.
      let below = is_below index most f in
      let g = got values index below numbers in
      let same : word_at s1.store (word_cell o w) ≡ index = (b1.good.stands.numbers w hw).word ∙ sym is.word in
      index_step (along at to_asked) w (table ∷ taken ∷ label ∷ rest) t s1 b1 e1
      (λ s2 b2 asked_is. table_step (along at to_table) l index values (taken ∷ label ∷ rest) t s2 g b2 below
      (asked_is ∙ ap (λ m. m % 256) same ∙ low_index index most below few) e2
      (λ s3 b3 taken_is. put_step (along at to_taken) v (word.Cells (own_cells o.plan.target).left) g.value (label ∷ rest) t s3 b3 h
      (record { number = g.number; word = taken_is }) e3
      (λ s4 b4. label_step (along at to_label) l rest (with_number t v g.value) s4 b4 e4
      (subst (λ z. Next (suc (along at to_label)) (looked_up t v z)) (value ∙ g.is) n)))))
      (λ f s1 b1. label_step (along at to_label) l rest t s1 b1 e4
      (subst (λ z. Next (suc (along at to_label)) (looked_up t v z)) (value ∙ none_past values index (is_past index most f)) n))

  -- the list of a look-up, whose label is not in front of it
  pub look_up_step : (at l v : ℕ) (w : NumSource) (values : List ℤ) (rest : List Paced) (t : int.Store) (s : Bytes) → Before o r at t s →
      v < o.plan.sizes.variables → IsNumSource (room_of o) w → length values ≤ 60 → All IsNumber values → Ahead code at l →
      drop at code ≡ look_up o v w values l ++ rest →
      Next (along at (look_up o v w values l)) (looked_up t v (value_at values (number_of t w))) → Reaches code Goal last s
  look_up_step at l v (N i) values rest t s b h hw few numbers ahead e n =
      known_step at v (value_at values i) rest t s b h (λ z f. value_holds values i z numbers f) e n
  look_up_step at l v (V w) [] rest t s b h hw few numbers ahead e n = n s (subst (λ x. Before o r at (looked_up t v x) s) (sym (no_values (t.number w))) b)
  look_up_step at l v (V w) (z ∷ []) rest t s b h hw few numbers ahead e n =
      one_step at l v w z rest t s b h hw (All-head IsNumber z [] numbers) ahead e n
  look_up_step at l v (V w) (x ∷ y ∷ zs) rest t s b h hw few numbers ahead e n = some_step at l v w x y zs rest t s b h hw numbers few ahead e n
