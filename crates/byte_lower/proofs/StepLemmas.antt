-- What the list of each operation does where its branch runs.
use Rattle.std.proofs.Common.{◌≡◌, ℕ, suc, ◌+◌, ◌%◌, ◌<◌, inl, inr, Bool, true, false, not, List, [], ◌∷◌, ◌++◌, drop, get_or, ℤ, pos, refl, sym, ap, subst, ◌∙◌, arith}
use Rattle.std.proofs.lemmas.Bool.{and_parts}
use Rattle.std.specs.Prelude.{◌⊎◌, ◌&&◌, nat_lt, int_lt, ◌+ℤ◌, ◌-ℤ◌, ◌*ℤ◌, neg_ℤ, if◌then◌else◌, None}
use Rattle.std.specs.Ordering.{int_eq}
use Rattle.ld_base.specs.Wrap.{wrap}
use Rattle.ladder_tree.specs.declared.element.MathHow.TheVariants as how
use Rattle.ladder_meaning.specs.Numbers.{IsNumber, computed, next}
use Rattle.ladder_meaning.specs.declared.reading.Reading.{Reading}
use Rattle.int_code.specs.Literals.{HoldsNumber, HoldsNumbers}
use Rattle.int_code.specs.Meaning.{all_run, ifs_behind, ifs_after, store_after}
use Rattle.int_code.specs.declared.op.Shape.{Shape}
use Rattle.int_code.specs.declared.op.Shape.TheVariants.{Opens, Turns, Closes, Plain}
use Rattle.int_code.specs.Shapes.{shape_of}
use Rattle.int_code.specs.Stands.{IsOff}
use Rattle.int_code.specs.Store.{value_of, number_of, with, with_number}
use Rattle.int_code.specs.Store as int
use Rattle.int_code.specs.WellFormed.{IsDest, IsSource, IsNumSource, IsComputed, IsInRange}
use Rattle.int_code.specs.declared.op.BitDest as written
use Rattle.int_code.specs.declared.op.BitSource as read
use Rattle.int_code.specs.declared.op.IntOp.{IntOp}
use Rattle.int_code.specs.declared.op.IntOp.TheVariants.{Set, Clr, Cpy, Not, Ifs, Ifc, Iflt, Ifeq, Els, Fi, Lit, Mov, Add, Sub, Inc, Dec, Tab, Mul, Div}
use Rattle.int_code.specs.declared.op.NumSource.{NumSource}
use Rattle.int_code.specs.declared.op.NumSource.TheVariants.{V, N}
use Rattle.byte_code.specs.declared.prim.BitOp.TheVariants as bits
use Rattle.byte_code.specs.declared.prim.BytePrim.TheVariants.{Label, Jump, JumpWhere, Bit, Word, Compare}
use Rattle.byte_code.specs.declared.prim.CompareOp.TheVariants as compares
use Rattle.byte_code.specs.declared.prim.FlagKind.TheVariants as kind
use Rattle.byte_code.specs.declared.prim.Paced.{Paced}
use Rattle.byte_code.specs.declared.prim.Test.{Test}
use Rattle.byte_code.specs.declared.prim.Test.TheVariants as test
use Rattle.byte_code.specs.declared.prim.WordOp.TheVariants as words
use Rattle.byte_code.specs.declared.prim.WordOp.{WordOp}
use Rattle.byte_code.specs.declared.prim.CompareOp.{CompareOp}
use Rattle.byte_code.specs.declared.prim.FlagKind.{FlagKind}
use Rattle.byte_code.specs.declared.state.Bytes.{Bytes}
use Rattle.byte_code.specs.Counts.{TestFits}
use Rattle.byte_code.specs.Machine.{label_place, next_with}
use Rattle.byte_code.specs.Store.{bit_from, word_at, word_from, with_bit_at, with_word, lifted}
use Rattle.byte_code.specs.Table.{plain, flagged, same, says, tested, word_effect, compare_effect}
use Rattle.byte_lower.proofs.CallLemmas.{Serves, product_go, quotient_go}
use Rattle.byte_lower.proofs.GoLemmas.{bit_go, word_go, compare_go, label_go, jump_go, where_go}
use Rattle.byte_lower.proofs.LookUpLemmas.{look_up_step}
use Rattle.byte_lower.proofs.RouteLemmas.{along, Reaches, Ahead, behind, pass}
use Rattle.byte_lower.proofs.StoreLemmas.{Apart, Good, any_flag, bit_written, word_written, bit_read, is_shown, number_read}
use Rattle.byte_lower.proofs.WordLemmas.{wrapped, sum_word, difference_word, quotient_word, opposite_sum, less_word, equal_word, next_less, next_number, none_above, equal_turned}
use Rattle.byte_lower.specs.Layout.{own_cells, word_cell, dest_of, source_of, room_of, HasPins}
use Rattle.byte_lower.specs.Lists.{is_built, paced, number, word_in, label_of, list_of, top_of, labels_behind, compare_less, jump_where, unless_less, unless_equal, sum, difference, product, quotient}
use Rattle.byte_lower.specs.Stands.{IsWordOf}
use Rattle.byte_lower.specs.declared.layout.Layout.{Layout}

abbrev pub HasOpen : Shape → List ℕ → List Bool → Type 0
HasOpen Opens labels ifs = Unit {0}
HasOpen Plain labels ifs = Unit {0}
HasOpen Turns (l ∷ labels) (b ∷ ifs) = Unit {0}
HasOpen Turns labels ifs = ⊥
HasOpen Closes (l ∷ labels) (b ∷ ifs) = Unit {0}
HasOpen Closes labels ifs = ⊥

-- the label of an open if that has so many open ifs inside
abbrev pub label_at : List ℕ → ℕ → ℕ
label_at labels depth = get_or labels depth 0

one_word : IsWordOf (pos 1) 1
one_word = record { number = refl; word = refl }

-- an els and a fi have an open if
abbrev pub OpensOf : IntOp → List ℕ → List Bool → Type 0
OpensOf op labels ifs = HasOpen (shape_of op) labels ifs

pub same_true_is : (x : Bool) → same x true ≡ x
same_true_is true = refl
same_true_is false = refl

pub same_false_is : (x : Bool) → same x false ≡ not x
same_false_is true = refl
same_false_is false = refl

not_not : (x : Bool) → not (not x) ≡ x
not_not true = refl
not_not false = refl

module _ (code : List Paced) (o : Layout) (r : Reading) (apart : Apart o) (pins : HasPins o) (Goal : Bytes → Type 0) (last : ℕ) where
  -- The branch of the innermost if that does not run is passed over: the machine waits at that if's label, with so many open ifs inside.
  pub record Sleeps (place : ℕ) (labels : List ℕ) (ifs : List Bool) : Type 0 where
    pub depth : ℕ
    pub off : IsOff depth ifs
    pub there : place ≡ label_place code (label_at labels depth)

  -- the machine between two operations of which the second's list begins at a place
  pub record At (s : Bytes) (at : ℕ) (labels : List ℕ) (ifs : List Bool) (t : int.Store) : Type 0 where
    pub closed : s.open_call ≡ None
    pub good : Good o r s.store t
    pub stands_at : ((all_run ifs ≡ true) × (s.place ≡ at)) ⊎ Sleeps s.place labels ifs

  module _ (k at : ℕ) (rest : List Paced) (labels : List ℕ) (ifs : List Bool) (t : int.Store) (s : Bytes) (closed : s.open_call ≡ None)
      (good : Good o r s.store t) (run : all_run ifs ≡ true) (is_at : s.place ≡ at) where
    abbrev Then : ℕ → List ℕ → List Bool → int.Store → Type 0
    Then at' labels' ifs' t' = (s' : Bytes) → At s' at' labels' ifs' t' → Reaches code Goal last s'

    bit_step : (b : written.BitDest) (x : Bool) → IsDest (room_of o) b → drop at code ≡ paced (Bit (bits.Put (dest_of o b) x)) ∷ rest →
        Then (suc at) labels ifs (with t b x) → Reaches code Goal last s
    bit_step b x h e n =
        bit_go code Goal last s at rest is_at (bits.Put (dest_of o b) x) e tt
        (n _ (record {
          closed = closed;
          good = any_flag o r apart pins (with_bit_at s.store (dest_of o b) x) (with t b x) None
              (bit_written o r apart pins s.store t b x h good);
          stands_at = inl (run, ap suc is_at);
        }))

    copy_step : (b : written.BitDest) (f : read.BitSource) (inverted : Bool) → IsDest (room_of o) b → IsSource (room_of o) f →
        drop at code ≡ paced (Bit (bits.Copy (dest_of o b) (source_of o f) inverted)) ∷ rest →
        Then (suc at) labels ifs (with t b (if inverted then not (value_of r t f) else value_of r t f)) → Reaches code Goal last s
    copy_step b f inverted h g e n =
        let x = if inverted then not (bit_from s.store (source_of o f)) else bit_from s.store (source_of o f) in
        let is : x ≡ (if inverted then not (value_of r t f) else value_of r t f) = ap (λ y. if inverted then not y else y)
        (bit_read o r apart pins s.store t f g good) in
        let d = with_bit_at s.store (dest_of o b) x in
        bit_go code Goal last s at rest is_at (bits.Copy (dest_of o b) (source_of o f) inverted) e (is_shown o r apart pins s.store t f good)
        (n _ (record {
          closed = closed;
          good = subst (λ y. Good o r (plain d) (with t b y)) is (any_flag o r apart pins d (with t b x) None
              (bit_written o r apart pins s.store t b x h good));
          stands_at = inl (run, ap suc is_at);
        }))

    put_by : (b : written.BitDest) (x c : Bool) → IsDest (room_of o) b → Good o r (plain (if c then with_bit_at s.store (dest_of o b) x else s.store))
        (if c then with t b x else t)
    put_by b x true h = any_flag o r apart pins (with_bit_at s.store (dest_of o b) x) (with t b x) None (bit_written o r apart pins s.store t b x h good)
    put_by b x false h = any_flag o r apart pins s.store t None good

    -- a bit takes a value where another is so
    pub guard_step : (f : read.BitSource) (is : Bool) (b : written.BitDest) (x : Bool) → IsSource (room_of o) f → IsDest (room_of o) b →
        drop at code ≡ paced (Bit (bits.PutIf (source_of o f) is (dest_of o b) x)) ∷ rest →
        Then (suc at) labels ifs (if same (value_of r t f) is then with t b x else t) → Reaches code Goal last s
    guard_step f is b x g h e n =
        let c = same (bit_from s.store (source_of o f)) is in
        bit_go code Goal last s at rest is_at (bits.PutIf (source_of o f) is (dest_of o b) x) e (is_shown o r apart pins s.store t f good)
        (n _ (record {
          closed = closed;
          good = subst (λ y. Good o r (plain (if c then with_bit_at s.store (dest_of o b) x else s.store)) (if y then with t b x else t))
              (ap (λ y. same y is) (bit_read o r apart pins s.store t f g good)) (put_by b x c h);
          stands_at = inl (run, ap suc is_at);
        }))

    -- a variable becomes a number whose word is put at its place
    word_step : (op : WordOp) (v : ℕ) (z : ℤ) (w : ℕ) → v < o.plan.sizes.variables → IsWordOf z w → word_effect op s.store ≡ with_word s.store (word_cell o v)
        w →
        drop at code ≡ paced (Word op) ∷ rest → Then (suc at) labels ifs (with_number t v z) → Reaches code Goal last s
    word_step op v z w h is does e n =
        let d = with_word s.store (word_cell o v) w in
        word_go code Goal last s at rest is_at op e
        (n _ (record {
          closed = closed;
          good = subst (λ x. Good o r (plain x) (with_number t v z)) (sym does) (any_flag o r apart pins d (with_number t v z) None
              (word_written o r apart pins s.store t v z w h is good));
          stands_at = inl (run, ap suc is_at);
        }))

    -- an if begins by a jump to its label where its first branch does not run
    open_step : (q : Test) (b : Bool) (l : ℕ) → drop at code ≡ paced (JumpWhere q l) ∷ rest → TestFits q s.store → says q (tested q s.store) ≡ not b →
        Good o r (tested q s.store) t → Ahead code at l →
        Then (suc at) (l ∷ labels) (b ∷ ifs) t → Reaches code Goal last s
    open_step q b l e fits said kept ahead n =
        where_go code Goal last s at rest is_at q l (not b) e fits said (further q l e ahead)
        (n _ (record { closed = closed; good = kept; stands_at = by b }))
      where
        further : (x : Test) (m : ℕ) → drop at code ≡ paced (JumpWhere x m) ∷ rest → Ahead code at m → at < label_place code m
        further x m f a = let up : label_place code m ≡ suc at + label_place (drop (suc at) code) m = pass code at m (paced (JumpWhere x m)) rest f refl a in
            omega (arith, up)

        by : (c : Bool) → ((all_run (c ∷ ifs) ≡ true) × ((if not c then label_place code l else suc s.place) ≡ suc at)) ⊎ Sleeps
            (if not c then label_place code l else suc s.place) (l ∷ labels) (c ∷ ifs)
        by true = inl (ap (λ x. x && true) run, ap suc is_at)
        by false = inr (record { depth = 0; off = (refl, run); there = refl })

    variable : (v : ℕ) → v < o.plan.sizes.variables → IsWordOf (t.number v) (word_at s.store (word_cell o v))
    variable v h = good.stands.numbers v h

    literal : (n : ℤ) → IsNumber n → IsWordOf n (word_from s.store (number n))
    literal n h = number_read s.store n h

    turned : (z : ℤ) (m n : ℕ) → IsWordOf z ((m + n) % 65536) → IsWordOf z ((n + m) % 65536)
    turned z m n is = subst (IsWordOf z) (omega arith) is

    sum_step : (v : ℕ) (w u : NumSource) → IsComputed (room_of o) v w u → HoldsNumber w → HoldsNumber u → drop at code ≡ sum o v w u ∷ rest →
        Then (suc at) labels ifs (with_number t v (computed how.Add (number_of t w) (number_of t u))) → Reaches code Goal last s
    sum_step v (V a) (V b) h hw hu e n =
        word_step (words.Add (word_cell o v) (word_cell o a) (word_in o b)) v (wrap (t.number a +ℤ t.number b)) _ h.0
        (sum_word _ _ _ _ (variable a h.1) (variable b h.2)) refl e n
    sum_step v (V a) (N m) h hw hu e n =
        word_step (words.Add (word_cell o v) (word_cell o a) (number m)) v (wrap (t.number a +ℤ m)) _ h.0 (sum_word _ _ _ _ (variable a h.1) (literal m hu))
        refl e n
    sum_step v (N m) (V b) h hw hu e n =
        word_step (words.Add (word_cell o v) (word_cell o b) (number m)) v (wrap (m +ℤ t.number b)) _ h.0
        (turned (wrap (m +ℤ t.number b)) (word_from s.store (number m)) (word_at s.store (word_cell o b)) (sum_word _ _ _ _ (literal m hw) (variable b h.2)))
        refl e n
    sum_step v (N m) (N u) h hw hu e n =
        word_step (words.Move (word_cell o v) (number (wrap (m +ℤ u)))) v (wrap (m +ℤ u)) _ h.0 (literal (wrap (m +ℤ u)) (wrapped (m +ℤ u))) refl e n

    difference_step : (v : ℕ) (w u : NumSource) → IsComputed (room_of o) v w u → HoldsNumber w → HoldsNumber u → drop at code ≡ difference o v w u ∷ rest →
        Then (suc at) labels ifs (with_number t v (computed how.Sub (number_of t w) (number_of t u))) → Reaches code Goal last s
    difference_step v (V a) (V b) h hw hu e n =
        word_step (words.Subtract (word_cell o v) (word_in o a) (word_in o b)) v (wrap (t.number a -ℤ t.number b)) _ h.0
        (difference_word _ _ _ _ (variable a h.1) (variable b h.2)) refl e n
    difference_step v (V a) (N m) h hw hu e n =
        word_step (words.Add (word_cell o v) (word_cell o a) (number (wrap (neg_ℤ m)))) v (wrap (t.number a -ℤ m)) _ h.0
        (subst (λ z. IsWordOf z ((word_at s.store (word_cell o a) + word_from s.store (number (wrap (neg_ℤ m)))) % 65536)) (opposite_sum (t.number a) m)
        (sum_word _ _ _ _ (variable a h.1) (literal (wrap (neg_ℤ m)) (wrapped (neg_ℤ m))))) refl e n
    difference_step v (N m) (V b) h hw hu e n =
        word_step (words.Subtract (word_cell o v) (number m) (word_in o b)) v (wrap (m -ℤ t.number b)) _ h.0
        (difference_word _ _ _ _ (literal m hw) (variable b h.2)) refl e n
    difference_step v (N m) (N u) h hw hu e n =
        word_step (words.Move (word_cell o v) (number (wrap (m -ℤ u)))) v (wrap (m -ℤ u)) _ h.0 (literal (wrap (m -ℤ u)) (wrapped (m -ℤ u))) refl e n

    product_step : Serves code (own_cells o.plan.target) → (v : ℕ) (w u : NumSource) → IsComputed (room_of o) v w u → HoldsNumber w → HoldsNumber u →
        drop at code ≡ product o v w u ++ rest →
        Then (along at (product o v w u)) labels ifs (with_number t v (computed how.Mul (number_of t w) (number_of t u))) → Reaches code Goal last s
    product_step serves v (N m) (N u) h hw hu e n =
        word_step (words.Move (word_cell o v) (number (wrap (m *ℤ u)))) v (wrap (m *ℤ u)) _ h.0 (literal (wrap (m *ℤ u)) (wrapped (m *ℤ u))) refl e n
    product_step serves v (N m) (V b) h hw hu e n =
        product_go code o r apart pins Goal last serves at rest t s closed good is_at v (N m) (V b) h hw hu e
        (λ s1 shut good1 place. n s1 (record { closed = shut; good = good1; stands_at = inl (run, place) }))
    product_step serves v (V a) u h hw hu e n =
        product_go code o r apart pins Goal last serves at rest t s closed good is_at v (V a) u h hw hu e
        (λ s1 shut good1 place. n s1 (record { closed = shut; good = good1; stands_at = inl (run, place) }))

    quotient_step : Serves code (own_cells o.plan.target) → (v : ℕ) (w u : NumSource) → IsComputed (room_of o) v w u → HoldsNumber w → HoldsNumber u →
        drop at code ≡ quotient o v w u ++ rest →
        Then (along at (quotient o v w u)) labels ifs (with_number t v (computed how.Div (number_of t w) (number_of t u))) → Reaches code Goal last s
    quotient_step serves v (N m) (N u) h hw hu e n =
        word_step (words.Move (word_cell o v) (number (computed how.Div m u))) v (computed how.Div m u) _ h.0
        (literal (computed how.Div m u) (quotient_word m u _ _ (literal m hw) (literal u hu)).number) refl e n
    quotient_step serves v (N m) (V b) h hw hu e n =
        quotient_go code o r apart pins Goal last serves at rest t s closed good is_at v (N m) (V b) h hw hu e
        (λ s1 shut good1 place. n s1 (record { closed = shut; good = good1; stands_at = inl (run, place) }))
    quotient_step serves v (V a) u h hw hu e n =
        quotient_go code o r apart pins Goal last serves at rest t s closed good is_at v (V a) u h hw hu e
        (λ s1 shut good1 place. n s1 (record { closed = shut; good = good1; stands_at = inl (run, place) }))

    -- an if whose first branch is known to run, or not to
    known_step : (b : Bool) (l : ℕ) → drop at code ≡ (if b then [] else paced (Jump l) ∷ []) ++ rest → Ahead code at l →
        Then (along at (if b then [] else paced (Jump l) ∷ [])) (l ∷ labels) (b ∷ ifs) t → Reaches code Goal last s
    known_step true l e ahead n = n s (record { closed = closed; good = good; stands_at = inl (ap (λ x. x && true) run, is_at) })
    known_step false l e ahead n =
        let up : label_place code l ≡ suc at + label_place (drop (suc at) code) l = pass code at l (paced (Jump l)) rest e refl ahead in
        jump_go code Goal last s at rest is_at l e (omega (arith, up))
        (n _ (record {
          closed = closed;
          good = any_flag o r apart pins s.store t None good;
          stands_at = inr (record { depth = 0; off = (refl, run); there = refl });
        }))

-- a comparison, and the jump that goes by its flag
module _ (code : List Paced) (o : Layout) (r : Reading) (apart : Apart o) (pins : HasPins o) (Goal : Bytes → Type 0) (last : ℕ) (k at : ℕ) (rest : List Paced)
    (labels : List ℕ) (ifs : List Bool) (t : int.Store) (s : Bytes) (closed : s.open_call ≡ None) (good : Good o r s.store t) (run : all_run ifs ≡ true)
    (is_at : s.place ≡ at) (l : ℕ) (ahead : Ahead code at l) where
  abbrev Next : ℕ → Bool → Type 0
  Next at' b = (s' : Bytes) → At code o r apart pins Goal last s' at' (l ∷ labels) (b ∷ ifs) t → Reaches code Goal last s'

  flag_step : (op : CompareOp) (what : FlagKind) (is x b : Bool) → compare_effect op s.store ≡ flagged s.store what x → same x is ≡ not b →
      drop at code ≡ paced (Compare op) ∷ paced (JumpWhere (test.Flag what is) l) ∷ rest → Next (suc (suc at)) b → Reaches code Goal last s
  flag_step op what is x b does says_so e n =
      let first = paced (Compare op) in
      let jump = paced (JumpWhere (test.Flag what is) l) in
      let s1 = next_with s (flagged s.store what x) in
      let e1 = behind code at first (jump ∷ rest) e in
      compare_go code Goal last s at (jump ∷ rest) is_at op e
      (subst (λ d. Reaches code Goal last (next_with s d)) (sym does)
      (open_step code o r apart pins Goal last k (suc at) rest labels ifs t s1 closed (any_flag o r apart pins s.store t _ good) run (ap suc is_at)
      (test.Flag what is) b l e1 refl says_so
      (any_flag o r apart pins s.store t _ good) (pass code at l first (jump ∷ rest) e refl ahead) n))

  less_by : (c : Bool) (m : ℤ) (b : ℕ) (h : Bool) → (c ≡ true → same (nat_lt (lifted (word_at s.store (word_cell o b)))
      (lifted (word_from s.store (number (m +ℤ pos 1))))) true ≡ not h) → (c ≡ false → h ≡ false) →
      drop at code ≡ (if c then compare_less o b (number (m +ℤ pos 1)) ∷ jump_where kind.Less true l ∷ [] else paced (Jump l) ∷ []) ++ rest →
      Next (along at (if c then compare_less o b (number (m +ℤ pos 1)) ∷ jump_where kind.Less true l ∷ [] else paced (Jump l) ∷ [])) h →
      Reaches code Goal last s
  less_by true m b h f g e n = flag_step (compares.Less (word_cell o b) (number (m +ℤ pos 1))) kind.Less true _ h refl (f refl) e n
  less_by false m b h f g e n =
      let not_so : h ≡ false = g refl in
      known_step code o r apart pins Goal last k at rest labels ifs t s closed good run is_at false l e ahead (subst (λ x. Next (suc at) x) not_so n)

  less_step : (w u : NumSource) → IsNumSource (room_of o) w → IsNumSource (room_of o) u → HoldsNumber w → HoldsNumber u → drop at code ≡ unless_less o w u l ++
      rest →
      Next (along at (unless_less o w u l)) (int_lt (number_of t w) (number_of t u)) → Reaches code Goal last s
  less_step (V a) (V b) h g hw hu e n =
      flag_step (compares.Less (word_cell o a) (word_in o b)) kind.Less false _ _ refl
      (same_false_is _ ∙ ap not (sym (less_word _ _ _ _ (good.stands.numbers a h) (good.stands.numbers b g)))) e n
  less_step (V a) (N m) h g hw hu e n =
      flag_step (compares.Less (word_cell o a) (number m)) kind.Less false _ _ refl
      (same_false_is _ ∙ ap not (sym (less_word _ _ _ _ (good.stands.numbers a h) (number_read s.store m hu)))) e n
  less_step (N m) (V b) h g hw hu e n =
      less_by (int_lt m (pos 32767)) m b (int_lt m (t.number b))
      (λ c. same_true_is _ ∙ sym (less_word _ _ _ _ (good.stands.numbers b g) (number_read s.store (m +ℤ pos 1) (next_number m hw c))) ∙ sym (not_not _) ∙ ap
      not (sym (next_less m (t.number b))))
      (λ c. none_above m (t.number b) (good.stands.numbers b g).number c) e n
  less_step (N m) (N u) h g hw hu e n = known_step code o r apart pins Goal last k at rest labels ifs t s closed good run is_at (int_lt m u) l e ahead n

  equal_step : (w u : NumSource) → IsNumSource (room_of o) w → IsNumSource (room_of o) u → HoldsNumber w → HoldsNumber u → drop at code ≡ unless_equal o w u l
      ++ rest →
      Next (along at (unless_equal o w u l)) (int_eq (number_of t w) (number_of t u)) → Reaches code Goal last s
  equal_step (V a) (V b) h g hw hu e n =
      flag_step (compares.Equal (word_cell o a) (word_in o b)) kind.Equal false _ _ refl
      (same_false_is _ ∙ ap not (sym (equal_word _ _ _ _ (good.stands.numbers a h) (good.stands.numbers b g)))) e n
  equal_step (V a) (N m) h g hw hu e n =
      flag_step (compares.Equal (word_cell o a) (number m)) kind.Equal false _ _ refl
      (same_false_is _ ∙ ap not (sym (equal_word _ _ _ _ (good.stands.numbers a h) (number_read s.store m hu)))) e n
  equal_step (N m) (V b) h g hw hu e n =
      flag_step (compares.Equal (word_cell o b) (number m)) kind.Equal false _ (int_eq m (t.number b)) refl
      (same_false_is _ ∙ ap not (sym (equal_word _ _ _ _ (good.stands.numbers b g) (number_read s.store m hw)) ∙ equal_turned (t.number b) m)) e n
  equal_step (N m) (N u) h g hw hu e n = known_step code o r apart pins Goal last k at rest labels ifs t s closed good run is_at (int_eq m u) l e ahead n

-- the list of an operation of which the branch runs does what the operation does
module _ (code : List Paced) (o : Layout) (r : Reading) (apart : Apart o) (pins : HasPins o) (Goal : Bytes → Type 0) (last : ℕ) (k at : ℕ) (rest : List Paced)
    (labels : List ℕ) (t : int.Store) (s : Bytes) (closed : s.open_call ≡ None) (good : Good o r s.store t) (is_at : s.place ≡ at)
    (own : Ahead code at (label_of k)) (serves : Serves code (own_cells o.plan.target)) where
  abbrev Onward : IntOp → List Bool → Type 0
  Onward op ifs = (s' : Bytes) → At code o r apart pins Goal last s' (along at (list_of o op (label_of k) (top_of labels)))
      (labels_behind (shape_of op) k labels) (ifs_after r op t ifs) (store_after r op t) → Reaches code Goal last s'

  pub step_of : (op : IntOp) (ifs : List Bool) → is_built op ≡ true → IsInRange (room_of o) op → HoldsNumbers op → OpensOf op labels ifs → all_run ifs ≡ true →
      drop at code ≡ list_of o op (label_of k) (top_of labels) ++ rest → Onward op ifs → Reaches code Goal last s
  step_of (Set b) ifs built h hold opens run e n = bit_step code o r apart pins Goal last k at rest labels ifs t s closed good run is_at b true h e n
  step_of (Clr b) ifs built h hold opens run e n = bit_step code o r apart pins Goal last k at rest labels ifs t s closed good run is_at b false h e n
  step_of (Cpy b f) ifs built h hold opens run e n = copy_step code o r apart pins Goal last k at rest labels ifs t s closed good run is_at b f false h.0 h.1 e
      n
  step_of (Not b f) ifs built h hold opens run e n = copy_step code o r apart pins Goal last k at rest labels ifs t s closed good run is_at b f true h.0 h.1 e n
  step_of (Ifs f) ifs built h hold opens run e n =
      let g = any_flag o r apart pins s.store t None good in
      open_step code o r apart pins Goal last k at rest labels ifs t s closed good run is_at (test.Bit (source_of o f) false) (value_of r t f) (label_of k) e
      (is_shown o r apart pins s.store t f good)
      (same_false_is _ ∙ ap not (bit_read o r apart pins (plain s.store) t f h g)) g own n
  step_of (Ifc f) ifs built h hold opens run e n =
      let g = any_flag o r apart pins s.store t None good in
      open_step code o r apart pins Goal last k at rest labels ifs t s closed good run is_at (test.Bit (source_of o f) true) (not (value_of r t f))
      (label_of k) e (is_shown o r apart pins s.store t f good)
      (same_true_is _ ∙ bit_read o r apart pins (plain s.store) t f h g ∙ sym (not_not (value_of r t f))) g own n
  step_of (Iflt w u) ifs built h hold opens run e n = less_step code o r apart pins Goal last k at rest labels ifs t s closed good run is_at (label_of k) own w
      u h.0 h.1 hold.0 hold.1 e n
  step_of (Ifeq w u) ifs built h hold opens run e n = equal_step code o r apart pins Goal last k at rest labels ifs t s closed good run is_at (label_of k) own
      w u h.0 h.1 hold.0 hold.1 e n
  step_of Els ifs built h hold opens run e n = turn ifs labels opens run e n
    where
      turn : (bs : List Bool) (ls : List ℕ) → OpensOf Els ls bs → all_run bs ≡ true → drop at code ≡ paced (Jump (label_of k)) ∷ paced (Label (top_of ls)) ∷
          rest →
          ((s' : Bytes) → At code o r apart pins Goal last s' (suc (suc at)) (labels_behind Turns k ls) (ifs_behind Turns true bs) t →
          Reaches code Goal last s') → Reaches code Goal last s
      turn [] [] op run f m = absurd op
      turn [] (l ∷ ls) op run f m = absurd op
      turn (b ∷ bs) [] op run f m = absurd op
      turn (b ∷ bs) (l ∷ ls) op run f m =
          let up : label_place code (label_of k) ≡ suc at + label_place (drop (suc at) code) (label_of k) = pass code at (label_of k)
          (paced (Jump (label_of k))) (paced (Label l) ∷ rest) f refl own in
          jump_go code Goal last s at (paced (Label l) ∷ rest) is_at (label_of k) f (omega (arith, up))
          (m _ (record {
            closed = closed;
            good = any_flag o r apart pins s.store t None good;
            stands_at = inr (record { depth = 0; off = (ap not (and_parts (all_run bs) b run).1, (and_parts (all_run bs) b run).0); there = refl });
          }))
  step_of Fi ifs built h hold opens run e n = close ifs labels opens run e n
    where
      close : (bs : List Bool) (ls : List ℕ) → OpensOf Fi ls bs → all_run bs ≡ true → drop at code ≡ paced (Label (top_of ls)) ∷ rest →
          ((s' : Bytes) → At code o r apart pins Goal last s' (suc at) (labels_behind Closes k ls) (ifs_behind Closes true bs) t → Reaches code Goal last s') →
          Reaches code Goal last s
      close [] [] op run f m = absurd op
      close [] (l ∷ ls) op run f m = absurd op
      close (b ∷ bs) [] op run f m = absurd op
      close (b ∷ bs) (l ∷ ls) op run f m =
          label_go code Goal last s at rest is_at l f
          (m _ (record { closed = closed; good = any_flag o r apart pins s.store t None good; stands_at = inl ((and_parts (all_run bs) b run).0, ap suc is_at) }))
  step_of (Lit v m) ifs built h hold opens run e n =
      word_step code o r apart pins Goal last k at rest labels ifs t s closed good run is_at (words.Move (word_cell o v) (number m)) v m _ h
      (number_read s.store m hold) refl e n
  step_of (Mov v from) ifs built h hold opens run e n =
      word_step code o r apart pins Goal last k at rest labels ifs t s closed good run is_at (words.Move (word_cell o v) (word_in o from)) v (t.number from) _
      h.0 (good.stands.numbers from h.1) refl e n
  step_of (Add v w u) ifs built h hold opens run e n = sum_step code o r apart pins Goal last k at rest labels ifs t s closed good run is_at v w u h hold.0
      hold.1 e n
  step_of (Sub v w u) ifs built h hold opens run e n = difference_step code o r apart pins Goal last k at rest labels ifs t s closed good run is_at v w u h
      hold.0 hold.1 e n
  step_of (Mul v w u) ifs built h hold opens run e n = product_step code o r apart pins Goal last k at rest labels ifs t s closed good run is_at serves v w u h
      hold.0 hold.1 e n
  step_of (Div v w u) ifs built h hold opens run e n = quotient_step code o r apart pins Goal last k at rest labels ifs t s closed good run is_at serves v w u h
      hold.0 hold.1 e n
  step_of (Inc v) ifs built h hold opens run e n =
      word_step code o r apart pins Goal last k at rest labels ifs t s closed good run is_at (words.Increment (word_cell o v)) v (next (t.number v)) _ h
      (sum_word _ (pos 1) _ 1 (good.stands.numbers v h) one_word) refl e n
  step_of (Dec v) ifs built h hold opens run e n =
      word_step code o r apart pins Goal last k at rest labels ifs t s closed good run is_at (words.Decrement (word_cell o v)) v (wrap (t.number v -ℤ pos 1)) _
      h (difference_word _ (pos 1) _ 1 (good.stands.numbers v h) one_word) refl e n
  step_of (Tab v w values) ifs built h hold opens run e n =
      look_up_step code o r apart pins Goal last at (label_of k) v w values rest t s (record { closed = closed; good = good; is_at = is_at }) h.0 h.1 h.2 hold.1
      own e
      (λ s1 b. n s1 (record { closed = b.closed; good = b.good; stands_at = inl (run, b.is_at) }))
  step_of op ifs built h hold opens run e n = absurd (cc)
