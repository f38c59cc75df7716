-- The lists of all operations, one after another.
use Rattle.std.proofs.Common.{◌≡◌, ◌≢◌, ℕ, zero, suc, ◌<◌, ◌≤◌, ⊎_elim, inl, inr, Bool, true, false, not, List, [], ◌∷◌, ◌++◌, drop, refl, sym, ap, subst, ◌∙◌, arith, append_assoc}
use Rattle.std.specs.Prelude.{Option, ◌⊎◌, ◌&&◌, ◌==◌, if◌then◌else◌, All, int_lt, ℤ, pos, Some, None}
use Rattle.std.proofs.lemmas.Bool.Decides.{nat_tests}
use Rattle.std.proofs.lemmas.List.Elements.{All-head, All-tail}
use Rattle.std.specs.Ordering.{int_eq}
use Rattle.ladder_meaning.specs.Numbers.{value_at}
use Rattle.ladder_meaning.specs.declared.reading.Reading.{Reading}
use Rattle.int_code.specs.Literals.{HoldsNumbers}
use Rattle.int_code.specs.Meaning.{Moment, all_run, holds, ifs_behind, is_reached, is_reached_by, store_after, step, run}
use Rattle.int_code.specs.Shapes.{shape_of}
use Rattle.int_code.specs.Stands.{IsOff}
use Rattle.int_code.specs.Store as int
use Rattle.int_code.specs.Store.{value_of}
use Rattle.int_code.specs.WellFormed.{nests, nests_by, IsDest, IsSource, IsInRange}
use Rattle.int_code.specs.declared.op.BitDest as written
use Rattle.int_code.specs.declared.op.BitSource as read
use Rattle.byte_code.specs.Table.{same}
use Rattle.int_code.specs.declared.op.IntOp.{IntOp}
use Rattle.int_code.specs.declared.op.IntOp.TheVariants.{Set, Clr, Cpy, Not, Ifs, Ifc, Iflt, Ifeq, Ifee, Els, Fi, Lit, Mov, Add, Sub, Inc, Dec, Tab, Mul, Div}
use Rattle.int_code.specs.declared.op.NumSource.{NumSource}
use Rattle.int_code.specs.declared.op.NumSource.TheVariants.{V, N}
use Rattle.int_code.specs.declared.op.Shape.{Shape}
use Rattle.int_code.specs.declared.op.Shape.TheVariants.{Opens, Turns, Closes, Plain}
use Rattle.byte_code.specs.declared.prim.BytePrim.TheVariants.{Label, Jump}
use Rattle.byte_code.specs.declared.prim.Paced.{Paced}
use Rattle.byte_code.specs.declared.state.Bytes.{Bytes}
use Rattle.byte_code.specs.Machine.{label_place}
use Rattle.byte_lower.proofs.GoLemmas.{label_go}
use Rattle.byte_lower.proofs.RouteLemmas.{along, along_on, HasNoNames, NamesBut, Reaches, arrive, Ahead, behind, beyond, pass, pass_all, pass_but, found}
use Rattle.byte_lower.proofs.StepLemmas.{same_true_is, same_false_is, guard_step, HasOpen, OpensOf, Sleeps, At, label_at, step_of}
use Rattle.byte_lower.proofs.StoreLemmas.{Apart, Good, any_flag}
use Rattle.byte_lower.specs.Layout.{room_of, HasPins, own_cells}
use Rattle.byte_lower.specs.Lists.{is_built, paced, label_of, list_of, lists_of, top_of, labels_behind, unless_less, unless_equal, sum, difference, put_known, look_up, guard_by, put_where, joined, product, quotient}
use Rattle.byte_lower.proofs.CallLemmas.{Serves}
use Rattle.byte_lower.specs.declared.guard.Guard.{Guard}
use Rattle.byte_lower.specs.declared.layout.Layout.{Layout}

pub other_label : (m l : ℕ) → l ≢ m → (m == l) ≡ false
other_label m l ne = grind (arith, nat_tests, ne)

-- all but els, fi and look-ups have no label in their lists
less_names : (b : Bool) (ps qs : List Paced) → HasNoNames ps → HasNoNames qs → HasNoNames (if b then ps else qs)
less_names true ps qs h g = h
less_names false ps qs h g = g

unless_less_names : (o : Layout) (w u : NumSource) (l : ℕ) → HasNoNames (unless_less o w u l)
unless_less_names o (V a) (V b) l = ((λ m. refl), ((λ m. refl), tt))
unless_less_names o (V a) (N m) l = ((λ m. refl), ((λ m. refl), tt))
unless_less_names o (N n) (V b) l = less_names (int_lt n (pos 32767)) _ _ ((λ m. refl), ((λ m. refl), tt)) ((λ m. refl), tt)
unless_less_names o (N n) (N m) l = less_names (int_lt n m) _ _ tt ((λ m. refl), tt)

unless_equal_names : (o : Layout) (w u : NumSource) (l : ℕ) → HasNoNames (unless_equal o w u l)
unless_equal_names o (V a) (V b) l = ((λ m. refl), ((λ m. refl), tt))
unless_equal_names o (V a) (N m) l = ((λ m. refl), ((λ m. refl), tt))
unless_equal_names o (N n) (V b) l = ((λ m. refl), ((λ m. refl), tt))
unless_equal_names o (N n) (N m) l = less_names (int_eq n m) _ _ tt ((λ m. refl), tt)

sum_names : (o : Layout) (v : ℕ) (w u : NumSource) → HasNoNames (sum o v w u ∷ [])
sum_names o v (V a) (V b) = ((λ m. refl), tt)
sum_names o v (V a) (N n) = ((λ m. refl), tt)
sum_names o v (N n) (V b) = ((λ m. refl), tt)
sum_names o v (N n) (N m) = ((λ m. refl), tt)

difference_names : (o : Layout) (v : ℕ) (w u : NumSource) → HasNoNames (difference o v w u ∷ [])
difference_names o v (V a) (V b) = ((λ m. refl), tt)
difference_names o v (V a) (N n) = ((λ m. refl), tt)
difference_names o v (N n) (V b) = ((λ m. refl), tt)
difference_names o v (N n) (N m) = ((λ m. refl), tt)

put_known_names : (o : Layout) (v l : ℕ) (x : Option ℤ) → NamesBut l (put_known o v x)
put_known_names o v l None = tt
put_known_names o v l (Some n) = ((λ m ne. refl), tt)

-- a look-up has its own label alone
pub look_up_names : (o : Layout) (v : ℕ) (w : NumSource) (values : List ℤ) (l : ℕ) → NamesBut l (look_up o v w values l)
look_up_names o v (N i) values l = put_known_names o v l (value_at values i)
look_up_names o v (V w) [] l = tt
look_up_names o v (V w) (n ∷ []) l = ((λ m ne. refl), ((λ m ne. refl), ((λ m ne. refl), ((λ m ne. other_label l m ne), tt))))
look_up_names o v (V w) (n ∷ k ∷ ns) l =
    ((λ m ne. refl), ((λ m ne. refl), ((λ m ne. refl), ((λ m ne. refl), ((λ m ne. refl), ((λ m ne. other_label l m ne), tt))))))

-- a plain operation of which the list has no label
abbrev pub IsNameless : IntOp → Type 0
IsNameless (Tab v w values) = ⊥
IsNameless op = shape_of op ≡ Plain

product_names : (o : Layout) (v : ℕ) (w u : NumSource) → HasNoNames (product o v w u)
product_names o v (N n) (N m) = ((λ l. refl), tt)
product_names o v (N n) (V b) = ((λ l. refl), ((λ l. refl), ((λ l. refl), ((λ l. refl), tt))))
product_names o v (V a) u = ((λ l. refl), ((λ l. refl), ((λ l. refl), ((λ l. refl), tt))))

quotient_names : (o : Layout) (v : ℕ) (w u : NumSource) → HasNoNames (quotient o v w u)
quotient_names o v (N n) (N m) = ((λ l. refl), tt)
quotient_names o v (N n) (V b) = ((λ l. refl), ((λ l. refl), ((λ l. refl), ((λ l. refl), tt))))
quotient_names o v (V a) u = ((λ l. refl), ((λ l. refl), ((λ l. refl), ((λ l. refl), tt))))

pub no_names : (o : Layout) (op : IntOp) (l top : ℕ) → (shape_of op ≡ Opens) ⊎ IsNameless op → HasNoNames (list_of o op l top)
no_names o (Set b) l top h = ((λ m. refl), tt)
no_names o (Clr b) l top h = ((λ m. refl), tt)
no_names o (Cpy b f) l top h = ((λ m. refl), tt)
no_names o (Not b f) l top h = ((λ m. refl), tt)
no_names o (Ifs f) l top h = ((λ m. refl), tt)
no_names o (Ifc f) l top h = ((λ m. refl), tt)
no_names o (Iflt w u) l top h = unless_less_names o w u l
no_names o (Ifeq w u) l top h = unless_equal_names o w u l
no_names o Els l top (inl h) = absurd (cc)
no_names o Els l top (inr h) = absurd (cc)
no_names o Fi l top (inl h) = absurd (cc)
no_names o Fi l top (inr h) = absurd (cc)
no_names o (Lit v n) l top h = ((λ m. refl), tt)
no_names o (Mov v f) l top h = ((λ m. refl), tt)
no_names o (Add v w u) l top h = sum_names o v w u
no_names o (Sub v w u) l top h = difference_names o v w u
no_names o (Mul v w u) l top h = product_names o v w u
no_names o (Div v w u) l top h = quotient_names o v w u
no_names o (Inc v) l top h = ((λ m. refl), tt)
no_names o (Dec v) l top h = ((λ m. refl), tt)
no_names o (Tab v w values) l top (inl h) = absurd (cc)
no_names o (Tab v w values) l top (inr h) = absurd h
no_names o op l top h = tt

-- the labels of open ifs are below a bound, and each below the one inside it
abbrev pub Falls : ℕ → List ℕ → Type 0
Falls bound [] = Unit {0}
Falls bound (l ∷ labels) = (l < bound) × Falls l labels

pub falls_up : (a b : ℕ) (labels : List ℕ) → a ≤ b → Falls a labels → Falls b labels
falls_up a b [] h f = tt
falls_up a b (l ∷ labels) h f = (omega (arith, f.0, h), f.1)

-- the labels, the open ifs and whether these had their els stand for one another
abbrev pub Alike : List ℕ → List Bool → List Bool → Type 0
Alike [] [] [] = Unit {0}
Alike (l ∷ labels) (b ∷ ifs) (e ∷ es) = Alike labels ifs es
Alike labels ifs es = ⊥

same_label : (m l : ℕ) → m ≡ l → (m == l) ≡ true
same_label m l e = grind (arith, nat_tests, e)

record Nested (rest : List Bool → Bool) (labels : List ℕ) (ifs es : List Bool) : Type 0 where
  behind_es : List Bool
  nested : rest behind_es ≡ true
  alike : Alike labels ifs behind_es

nested_on : (h : Shape) (k : ℕ) (b : Bool) (rest : List Bool → Bool) (labels : List ℕ) (ifs es : List Bool) → nests_by h rest es ≡ true → Alike labels ifs es →
    Nested rest (labels_behind h k labels) (ifs_behind h b ifs) es
nested_on Opens k b rest labels ifs es n a = record { behind_es = false ∷ es; nested = n; alike = a }
nested_on Plain k b rest labels ifs es n a = record { behind_es = es; nested = n; alike = a }
nested_on Turns k b rest labels ifs [] n a = absurd (cc)
nested_on Turns k b rest (l ∷ labels) (c ∷ ifs) (e ∷ es) n a = record { behind_es = true ∷ es; nested = second_of (not e) _ n; alike = a }
  where
    second_of : (x y : Bool) → x && y ≡ true → y ≡ true
    second_of true y p = p
    second_of false y p = absurd (cc)
nested_on Turns k b rest [] [] (e ∷ es) n a = absurd a
nested_on Turns k b rest [] (c ∷ ifs) (e ∷ es) n a = absurd a
nested_on Turns k b rest (l ∷ labels) [] (e ∷ es) n a = absurd a
nested_on Closes k b rest labels ifs [] n a = absurd (cc)
nested_on Closes k b rest (l ∷ labels) (c ∷ ifs) (e ∷ es) n a = record { behind_es = es; nested = n; alike = a }
nested_on Closes k b rest [] [] (e ∷ es) n a = absurd a
nested_on Closes k b rest [] (c ∷ ifs) (e ∷ es) n a = absurd a
nested_on Closes k b rest (l ∷ labels) [] (e ∷ es) n a = absurd a

opened_of : (h : Shape) (rest : List Bool → Bool) (labels : List ℕ) (ifs es : List Bool) → nests_by h rest es ≡ true → Alike labels ifs es →
    HasOpen h labels ifs
opened_of Opens rest labels ifs es n a = tt
opened_of Plain rest labels ifs es n a = tt
opened_of Turns rest labels ifs [] n a = absurd (cc)
opened_of Turns rest (l ∷ labels) (c ∷ ifs) (e ∷ es) n a = tt
opened_of Turns rest [] [] (e ∷ es) n a = absurd a
opened_of Turns rest [] (c ∷ ifs) (e ∷ es) n a = absurd a
opened_of Turns rest (l ∷ labels) [] (e ∷ es) n a = absurd a
opened_of Closes rest labels ifs [] n a = absurd (cc)
opened_of Closes rest (l ∷ labels) (c ∷ ifs) (e ∷ es) n a = tt
opened_of Closes rest [] [] (e ∷ es) n a = absurd a
opened_of Closes rest [] (c ∷ ifs) (e ∷ es) n a = absurd a
opened_of Closes rest (l ∷ labels) [] (e ∷ es) n a = absurd a

-- where the branches run an operation is reached
reached_awake : (h : Shape) (ifs : List Bool) → all_run ifs ≡ true → is_reached_by h ifs ≡ true
reached_awake Opens ifs e = e
reached_awake Turns ifs e = e
reached_awake Plain ifs e = e
reached_awake Closes [] e = refl
reached_awake Closes (b ∷ ifs) e = first_of (all_run ifs) b e
  where
    first_of : (x y : Bool) → x && y ≡ true → x ≡ true
    first_of true y p = refl
    first_of false y p = absurd (cc)

off_stops : (depth : ℕ) (ifs : List Bool) → IsOff depth ifs → all_run ifs ≡ false
off_stops depth [] h = absurd h
off_stops zero (b ∷ bs) h = rw (h.0, h.1) refl
off_stops (suc depth) (b ∷ bs) h = rw (off_stops depth bs h) refl

if_same : {X : Type 0} (b : Bool) (x : X) → (if b then x else x) ≡ x
if_same true x = refl
if_same false x = refl

-- an operation of which the branch does not run writes nothing
kept_asleep : (r : Reading) (op : IntOp) (m : Moment) (depth : ℕ) → IsOff depth m.ifs → (step r op m).store ≡ m.store
kept_asleep r Els m depth off = if_same (is_reached Els m.ifs) m.store
kept_asleep r Fi m depth off = if_same (is_reached Fi m.ifs) m.store
kept_asleep r op m depth off = ap (λ b. if b then store_after r op m.store else m.store) (off_stops depth m.ifs off)

-- what the three operations of a guarded write do
pub record Guarded (o : Layout) (r : Reading) (x y z : IntOp) (g : Guard) : Type 0 where
  pub nest : (ops : List IntOp) (es : List Bool) → nests (x ∷ y ∷ z ∷ ops) es ≡ nests ops es
  ifs : (m : Moment) → (step r z (step r y (step r x m))).ifs ≡ m.ifs
  store : (m : Moment) → (step r z (step r y (step r x m))).store ≡ (if all_run m.ifs then (if same (value_of r m.store g.from) g.is then int.with m.store g.to
      g.value else m.store) else m.store)
  pub source : IsInRange (room_of o) x → IsSource (room_of o) g.from
  pub dest : IsInRange (room_of o) y → IsDest (room_of o) g.to

three_stores : (b v : Bool) (t : int.Store) (f : int.Store → int.Store) →
    (if b then (if b && v then f (if b then t else t) else (if b then t else t)) else (if b && v then f (if b then t else t) else (if b then t else t))) ≡
    (if b then (if v then f t else t) else t)
three_stores true true t f = refl
three_stores true false t f = refl
three_stores false true t f = refl
three_stores false false t f = refl

stored : (b v w : Bool) (t : int.Store) (f : int.Store → int.Store) → w ≡ v →
    (if b then (if b && v then f (if b then t else t) else (if b then t else t)) else (if b && v then f (if b then t else t) else (if b then t else t))) ≡
    (if b then (if w then f t else t) else t)
stored b v w t f e = three_stores b v t f ∙ ap (λ c. if b then (if c then f t else t) else t) (sym e)

guard_set : (o : Layout) (r : Reading) (s : read.BitSource) (b : written.BitDest) → Guarded o r (Ifs s) (Set b) Fi
    (record { from = s; is = true; to = b; value = true })
guard_set o r s b = record {
  nest = λ ops es. refl;
  ifs = λ m. refl;
  store = λ m. stored (all_run m.ifs) (value_of r m.store s)
      (same (value_of r m.store s) true) m.store (λ t. int.with t b true) (same_true_is (value_of r m.store s));
  source = λ h. h;
  dest = λ h. h;
}

guard_clear : (o : Layout) (r : Reading) (s : read.BitSource) (b : written.BitDest) → Guarded o r (Ifs s) (Clr b) Fi
    (record { from = s; is = true; to = b; value = false })
guard_clear o r s b = record {
  nest = λ ops es. refl;
  ifs = λ m. refl;
  store = λ m. stored (all_run m.ifs) (value_of r m.store s)
      (same (value_of r m.store s) true) m.store (λ t. int.with t b false) (same_true_is (value_of r m.store s));
  source = λ h. h;
  dest = λ h. h;
}

guard_set_off : (o : Layout) (r : Reading) (s : read.BitSource) (b : written.BitDest) → Guarded o r (Ifc s) (Set b) Fi
    (record { from = s; is = false; to = b; value = true })
guard_set_off o r s b = record {
  nest = λ ops es. refl;
  ifs = λ m. refl;
  store = λ m. stored (all_run m.ifs) (not (value_of r m.store s))
      (same (value_of r m.store s) false) m.store (λ t. int.with t b true) (same_false_is (value_of r m.store s));
  source = λ h. h;
  dest = λ h. h;
}

guard_clear_off : (o : Layout) (r : Reading) (s : read.BitSource) (b : written.BitDest) → Guarded o r (Ifc s) (Clr b) Fi
    (record { from = s; is = false; to = b; value = false })
guard_clear_off o r s b = record {
  nest = λ ops es. refl;
  ifs = λ m. refl;
  store = λ m. stored (all_run m.ifs) (not (value_of r m.store s))
      (same (value_of r m.store s) false) m.store (λ t. int.with t b false) (same_false_is (value_of r m.store s));
  source = λ h. h;
  dest = λ h. h;
}

some_guard : (a b : Guard) → Some a ≡ Some b → a ≡ b
some_guard a b e = cc

pub guard_facts : (o : Layout) (r : Reading) (x y z : IntOp) (g : Guard) → guard_by x y z ≡ Some g → Guarded o r x y z g
guard_facts o r (Ifs s) (Set b) Fi g e = subst (Guarded o r (Ifs s) (Set b) Fi) (some_guard (record { from = s; is = true; to = b; value = true }) g e)
    (guard_set o r s b)
guard_facts o r (Ifs s) (Clr b) Fi g e = subst (Guarded o r (Ifs s) (Clr b) Fi) (some_guard (record { from = s; is = true; to = b; value = false }) g e)
    (guard_clear o r s b)
guard_facts o r (Ifc s) (Set b) Fi g e = subst (Guarded o r (Ifc s) (Set b) Fi) (some_guard (record { from = s; is = false; to = b; value = true }) g e)
    (guard_set_off o r s b)
guard_facts o r (Ifc s) (Clr b) Fi g e = subst (Guarded o r (Ifc s) (Clr b) Fi) (some_guard (record { from = s; is = false; to = b; value = false }) g e)
    (guard_clear_off o r s b)
guard_facts o r x y z g e = absurd (cc)

module _ (code : List Paced) where
  abbrev pub AllAhead : ℕ → List ℕ → Type 0
  AllAhead at [] = Unit {0}
  AllAhead at (l ∷ labels) = Ahead code at l × AllAhead at labels

  all_pass : (at : ℕ) (labels : List ℕ) (ps rest : List Paced) → drop at code ≡ ps ++ rest → HasNoNames ps → AllAhead at labels → AllAhead (along at ps) labels
  all_pass at [] ps rest e none h = tt
  all_pass at (l ∷ labels) ps rest e none h = (pass_all code at l ps rest e none h.0, all_pass at labels ps rest e none h.1)

  all_pass_but : (at m : ℕ) (labels : List ℕ) (ps rest : List Paced) → drop at code ≡ ps ++ rest → NamesBut m ps → Falls m labels → AllAhead at labels →
      AllAhead (along at ps) labels
  all_pass_but at m [] ps rest e but falls h = tt
  all_pass_but at m (l ∷ labels) ps rest e but falls h = (
    pass_but code at l m ps rest e but (λ f. omega (arith, f, falls.0)) h.0,
    all_pass_but at m labels ps rest e but (falls_up l m labels (omega (arith, falls.0)) falls.1) h.1,
  )

  -- labels below one are no more in front of it behind it
  pass_label : (at top : ℕ) (labels : List ℕ) (rest : List Paced) → drop at code ≡ paced (Label top) ∷ rest → Falls top labels → AllAhead at labels →
      AllAhead (suc at) labels
  pass_label at top [] rest e falls h = tt
  pass_label at top (l ∷ labels) rest e falls h = (
    pass code at l (paced (Label top)) rest e (other_label top l (below l top falls.0)) h.0,
    pass_label at top labels rest e
        (falls_up l top labels (less l top falls.0) falls.1) h.1,
  )
    where
      below : (a b : ℕ) → a < b → a ≢ b
      below a b lt same = omega (arith, lt, same)

      less : (a b : ℕ) → a < b → a ≤ b
      less a b lt = omega (arith, lt)

  -- the labels of open ifs, and those of operations from number k on, are not in front of a place
  pub record Marks (at k : ℕ) (labels : List ℕ) : Type 0 where
    pub later : (l : ℕ) → k < l → Ahead code at l
    pub ahead : AllAhead at labels
    pub falls : Falls (suc k) labels

  marks_opens : (at k : ℕ) (labels : List ℕ) (ps rest : List Paced) → drop at code ≡ ps ++ rest → HasNoNames ps → Marks at k labels →
      Marks (along at ps) (suc k) (label_of k ∷ labels)
  marks_opens at k labels ps rest e none m = record {
    later = λ l h. pass_all code at l ps rest e none (m.later l (omega (arith, h)));
    ahead = (pass_all code at (suc k) ps rest e none (m.later (suc k) (omega arith)), all_pass at labels ps rest e none m.ahead);
    falls = (omega arith, m.falls);
  }

  marks_plain : (at k : ℕ) (labels : List ℕ) (ps rest : List Paced) → drop at code ≡ ps ++ rest → HasNoNames ps → Marks at k labels →
      Marks (along at ps) (suc k) labels
  marks_plain at k labels ps rest e none m = record {
    later = λ l h. pass_all code at l ps rest e none (m.later l (omega (arith, h)));
    ahead = all_pass at labels ps rest e none m.ahead;
    falls = falls_up (suc k) (suc (suc k)) labels (omega arith) m.falls;
  }

  -- also where the operation's own label is among them
  marks_own : (at k : ℕ) (labels : List ℕ) (ps rest : List Paced) → drop at code ≡ ps ++ rest → NamesBut (label_of k) ps → Marks at k labels →
      Marks (along at ps) (suc k) labels
  marks_own at k labels ps rest e but m = record {
    later = λ l h. pass_but code at l (suc k) ps rest e but (λ f. omega (arith, f, h)) (m.later l (omega (arith, h)));
    ahead = all_pass_but at (suc k) labels ps rest e but m.falls m.ahead;
    falls = falls_up (suc k) (suc (suc k)) labels (omega arith) m.falls;
  }

  marks_far : (at k j : ℕ) (labels : List ℕ) → k ≤ j → Marks at k labels → Marks at j labels
  marks_far at k j labels h m = record {
    later = λ l f. m.later l (omega (arith, f, h));
    ahead = m.ahead;
    falls = falls_up (suc k) (suc j) labels
        (omega (arith, h)) m.falls;
  }

  marks_closes : (at k l : ℕ) (labels : List ℕ) (rest : List Paced) → drop at code ≡ paced (Label l) ∷ rest → Marks at k (l ∷ labels) →
      Marks (suc at) (suc k) labels
  marks_closes at k l labels rest e m =
      let low = m.falls.0 in
      record {
        later = λ j h. pass code at j (paced (Label l)) rest e (other_label l j (λ f. omega (arith, f, h, low))) (m.later j (omega (arith, h)));
        ahead = pass_label at l labels rest e m.falls.1 m.ahead.1;
        falls = falls_up l (suc (suc k)) labels (omega (arith, low)) m.falls.1;
      }

  marks_turns : (at k l : ℕ) (labels : List ℕ) (rest : List Paced) → drop at code ≡ paced (Jump (label_of k)) ∷ paced (Label l) ∷ rest →
      Marks at k (l ∷ labels) →
      Marks (suc (suc at)) (suc k) (label_of k ∷ labels)
  marks_turns at k l labels rest e m =
      let low = m.falls.0 in
      let jump = paced (Jump (label_of k)) in
      let label = paced (Label l) in
      let e1 = behind code at jump (label ∷ rest) e in
      record {
        later = λ j h. pass code (suc at) j label rest e1 (other_label l j (λ f. omega (arith, f, h, low))) (pass code at j jump (label ∷ rest) e refl
            (m.later j (omega (arith, h))));
        ahead = (
          pass code (suc at) (suc k) label rest e1 (other_label l (suc k) (λ f. omega (arith, f, low))) (pass code at (suc k) jump (label ∷ rest) e refl
              (m.later (suc k) (omega arith))),
          pass_label (suc at) l labels rest e1 m.falls.1 (all_pass at labels (jump ∷ []) (label ∷ rest) e ((λ j. refl), tt) m.ahead.1),
        );
        falls = (omega arith, falls_up l (suc k) labels (omega (arith, low)) m.falls.1);
      }

  -- the labels behind an operation
  marks_on : (o : Layout) (op : IntOp) (at k : ℕ) (labels : List ℕ) (ifs : List Bool) (rest : List Paced) → OpensOf op labels ifs →
      drop at code ≡ list_of o op (label_of k) (top_of labels) ++ rest → Marks at k labels →
      Marks (along at (list_of o op (label_of k) (top_of labels))) (suc k) (labels_behind (shape_of op) k labels)
  marks_on o Els at k [] [] rest op e m = absurd op
  marks_on o Els at k [] (b ∷ ifs) rest op e m = absurd op
  marks_on o Els at k (l ∷ labels) [] rest op e m = absurd op
  marks_on o Els at k (l ∷ labels) (b ∷ ifs) rest op e m = marks_turns at k l labels rest e m
  marks_on o Fi at k [] [] rest op e m = absurd op
  marks_on o Fi at k [] (b ∷ ifs) rest op e m = absurd op
  marks_on o Fi at k (l ∷ labels) [] rest op e m = absurd op
  marks_on o Fi at k (l ∷ labels) (b ∷ ifs) rest op e m = marks_closes at k l labels rest e m
  marks_on o (Ifs f) at k labels ifs rest op e m = marks_opens at k labels (list_of o (Ifs f) (label_of k) (top_of labels)) rest e
      (no_names o (Ifs f) (label_of k) (top_of labels) (inl refl)) m
  marks_on o (Ifc f) at k labels ifs rest op e m = marks_opens at k labels (list_of o (Ifc f) (label_of k) (top_of labels)) rest e
      (no_names o (Ifc f) (label_of k) (top_of labels) (inl refl)) m
  marks_on o (Iflt w u) at k labels ifs rest op e m = marks_opens at k labels (list_of o (Iflt w u) (label_of k) (top_of labels)) rest e
      (no_names o (Iflt w u) (label_of k) (top_of labels) (inl refl)) m
  marks_on o (Ifeq w u) at k labels ifs rest op e m = marks_opens at k labels (list_of o (Ifeq w u) (label_of k) (top_of labels)) rest e
      (no_names o (Ifeq w u) (label_of k) (top_of labels) (inl refl)) m
  marks_on o (Ifee v a) at k labels ifs rest op e m = marks_opens at k labels (list_of o (Ifee v a) (label_of k) (top_of labels)) rest e
      (no_names o (Ifee v a) (label_of k) (top_of labels) (inl refl)) m
  marks_on o (Tab v w values) at k labels ifs rest op e m = marks_own at k labels (look_up o v w values (label_of k)) rest e
      (look_up_names o v w values (label_of k)) m
  marks_on o op at k labels ifs rest opens e m = marks_plain at k labels (list_of o op (label_of k) (top_of labels)) rest e
      (no_names o op (label_of k) (top_of labels) (inr refl)) m

module _ (code : List Paced) (o : Layout) (r : Reading) (apart : Apart o) (pins : HasPins o) (Goal : Bytes → Type 0) (last : ℕ) where
  module _ (k at : ℕ) (rest : List Paced) (t : int.Store) (s : Bytes) (closed : s.open_call ≡ None) (good : Good o r s.store t) where
    abbrev Onto : ℕ → List ℕ → List Bool → Type 0
    Onto at' labels' ifs' = (s' : Bytes) → At code o r apart pins Goal last s' at' labels' ifs' t → Reaches code Goal last s'

    still : (labels : List ℕ) (ifs : List Bool) (at' : ℕ) → Sleeps code o r apart pins Goal last s.place labels ifs → Onto at' labels ifs →
        Reaches code Goal last s
    still labels ifs at' z n = n s (record { closed = closed; good = good; stands_at = inr z })

    deeper : (labels : List ℕ) (ifs : List Bool) (at' l : ℕ) (b : Bool) → Sleeps code o r apart pins Goal last s.place labels ifs →
        Onto at' (l ∷ labels) (b ∷ ifs) → Reaches code Goal last s
    deeper labels ifs at' l b z n = n s (record {
      closed = closed;
      good = good;
      stands_at = inr (record { depth = suc z.depth; off = z.off; there = z.there });
    })

    sleeps_turn : (l : ℕ) (labels : List ℕ) (b : Bool) (ifs : List Bool) (depth : ℕ) → IsOff depth (b ∷ ifs) →
        s.place ≡ label_place code (label_at (l ∷ labels) depth) →
        drop at code ≡ paced (Jump (label_of k)) ∷ paced (Label l) ∷ rest → Marks code at k (l ∷ labels) → Onto (suc (suc at)) (label_of k ∷ labels)
        (not b ∷ ifs) → Reaches code Goal last s
    sleeps_turn l labels b ifs zero off there e m n =
        let jump = paced (Jump (label_of k)) in
        let e1 = behind code at jump (paced (Label l) ∷ rest) e in
        let is_at : s.place ≡ suc at = there ∙ found code (suc at) l (paced (Label l)) rest e1 (same_label l l refl)
        (pass code at l jump (paced (Label l) ∷ rest) e refl m.ahead.0) in
        label_go code Goal last s (suc at) rest is_at l e1
        (n _ (record {
          closed = closed;
          good = any_flag o r apart pins s.store t None good;
          stands_at = inl (
            ap (λ x. x && not b) off.1 ∙ ap not off.0,
            ap suc
                is_at,
          );
        }))
    sleeps_turn l labels b ifs (suc depth) off there e m n = n s (record {
      closed = closed;
      good = good;
      stands_at = inr (record { depth = suc depth; off = off; there = there });
    })

    sleeps_close : (l : ℕ) (labels : List ℕ) (b : Bool) (ifs : List Bool) (depth : ℕ) → IsOff depth (b ∷ ifs) →
        s.place ≡ label_place code (label_at (l ∷ labels) depth) →
        drop at code ≡ paced (Label l) ∷ rest → Marks code at k (l ∷ labels) → Onto (suc at) labels ifs → Reaches code Goal last s
    sleeps_close l labels b ifs zero off there e m n =
        let is_at : s.place ≡ at = there ∙ found code at l (paced (Label l)) rest e (same_label l l refl) m.ahead.0 in
        label_go code Goal last s at rest is_at l e (n _ (record {
          closed = closed;
          good = any_flag o r apart pins s.store t None good;
          stands_at = inl (off.1, ap suc is_at);
        }))
    sleeps_close l labels b ifs (suc depth) off there e m n = n s (record {
      closed = closed;
      good = good;
      stands_at = inr (record { depth = depth; off = off; there = there });
    })

    -- an operation of which the branch does not run
    sleep_of : (op : IntOp) (labels : List ℕ) (ifs : List Bool) (b : Bool) → OpensOf op labels ifs → Sleeps code o r apart pins Goal last s.place labels ifs →
        drop at code ≡ list_of o op (label_of k) (top_of labels) ++ rest → Marks code at k labels →
        Onto (along at (list_of o op (label_of k) (top_of labels))) (labels_behind (shape_of op) k labels) (ifs_behind (shape_of op) b ifs) →
        Reaches code Goal last s
    sleep_of Els [] [] b op z e m n = absurd op
    sleep_of Els [] (c ∷ ifs) b op z e m n = absurd op
    sleep_of Els (l ∷ labels) [] b op z e m n = absurd op
    sleep_of Els (l ∷ labels) (c ∷ ifs) b op z e m n = sleeps_turn l labels c ifs z.depth z.off z.there e m n
    sleep_of Fi [] [] b op z e m n = absurd op
    sleep_of Fi [] (c ∷ ifs) b op z e m n = absurd op
    sleep_of Fi (l ∷ labels) [] b op z e m n = absurd op
    sleep_of Fi (l ∷ labels) (c ∷ ifs) b op z e m n = sleeps_close l labels c ifs z.depth z.off z.there e m n
    sleep_of (Ifs f) labels ifs b op z e m n = deeper labels ifs _ (label_of k) b z n
    sleep_of (Ifc f) labels ifs b op z e m n = deeper labels ifs _ (label_of k) b z n
    sleep_of (Iflt w u) labels ifs b op z e m n = deeper labels ifs _ (label_of k) b z n
    sleep_of (Ifeq w u) labels ifs b op z e m n = deeper labels ifs _ (label_of k) b z n
    sleep_of (Ifee v a) labels ifs b op z e m n = deeper labels ifs _ (label_of k) b z n
    sleep_of op labels ifs b opens z e m n = still labels ifs _ z n

  at_end : (at : ℕ) (labels : List ℕ) (ifs es : List Bool) (place : ℕ) → nests [] es ≡ true → Alike labels ifs es → ((all_run ifs ≡ true) × (place ≡ at)) ⊎
      Sleeps code o r apart pins Goal last place labels ifs → place ≡ at
  at_end at labels ifs es place n a (inl (run, is)) = is
  at_end at [] [] [] place n a (inr z) = absurd z.off
  at_end at [] [] (e ∷ es) place n a (inr z) = absurd (cc)
  at_end at [] (b ∷ ifs) [] place n a (inr z) = absurd a
  at_end at [] (b ∷ ifs) (e ∷ es) place n a (inr z) = absurd a
  at_end at (l ∷ labels) [] [] place n a (inr z) = absurd a
  at_end at (l ∷ labels) [] (e ∷ es) place n a (inr z) = absurd a
  at_end at (l ∷ labels) (b ∷ ifs) [] place n a (inr z) = absurd a
  at_end at (l ∷ labels) (b ∷ ifs) (e ∷ es) place n a (inr z) = absurd (cc)

  module _ (end : Moment) (back : List Paced) (arrives : (s : Bytes) → s.open_call ≡ None → Good o r s.store end.store → s.place ≡ last → Goal s)
      (serves : Serves code (own_cells o.plan.target)) where
    -- from where operations are to be run
    pub record Ready (ops : List IntOp) (k at : ℕ) (labels : List ℕ) (es : List Bool) (m : Moment) (s : Bytes) : Type 0 where
      pub built : All (λ op. is_built op ≡ true) ops
      pub range : All (IsInRange (room_of o)) ops
      pub hold : All HoldsNumbers ops
      pub ahead : drop at code ≡ lists_of o 0 ops k labels ++ back
      pub to : along at (lists_of o 0 ops k labels) ≡ last
      pub nested : nests ops es ≡ true
      pub alike : Alike labels m.ifs es
      pub marks : Marks code at k labels
      pub ends : run r ops m ≡ end
      pub at_place : At code o r apart pins Goal last s at labels m.ifs m.store

    at_last : (k at : ℕ) (labels : List ℕ) (es : List Bool) (m : Moment) (s : Bytes) → Ready [] k at labels es m s → Reaches code Goal last s
    at_last k at labels es m s h =
        let is_at = at_end at labels m.ifs es s.place h.nested h.alike h.at_place.stands_at in
        arrive code Goal last s (arrives s h.at_place.closed (subst (λ x. Good o r s.store x.store) h.ends h.at_place.good) (is_at ∙ h.to)) (is_at ∙ h.to)

    -- by the list of one operation
    one_on : (op : IntOp) (ops : List IntOp) (k at : ℕ) (labels : List ℕ) (es : List Bool) (m : Moment) (s : Bytes) → Ready (op ∷ ops) k at labels es m s →
        lists_of o 0 (op ∷ ops) k labels ≡ list_of o op (label_of k) (top_of labels) ++ lists_of o 0 ops (suc k) (labels_behind (shape_of op) k labels) →
        ((at1 : ℕ) (es1 : List Bool) (s1 : Bytes) → Ready ops (suc k) at1 (labels_behind (shape_of op) k labels) es1 (step r op m) s1 →
        Reaches code Goal last s1) → Reaches code Goal last s
    one_on op ops k at labels es m s h split next_on =
        let ps = list_of o op (label_of k) (top_of labels) in
        let labels1 = labels_behind (shape_of op) k labels in
        let tail = lists_of o 0 ops (suc k) labels1 in
        let rest = tail ++ back in
        let e1 : drop at code ≡ ps ++ rest = h.ahead ∙ ap (λ x. x ++ back) split ∙ append_assoc ps tail back in
        let to1 : along at (ps ++ tail) ≡ last = ap (along at) (sym split) ∙ h.to in
        let opens = opened_of (shape_of op) (nests ops) labels m.ifs es h.nested h.alike in
        let next = nested_on (shape_of op) k (holds r op m.store) (nests ops) labels m.ifs es h.nested h.alike in
        let go_on : (s1 : Bytes) → At code o r apart pins Goal last s1 (along at ps) labels1 (step r op m).ifs (step r op m).store → Reaches code Goal last s1 =
        λ s1 h1. next_on (along at ps) next.behind_es s1 (record {
          built = All-tail (λ x. is_built x ≡ true) op ops h.built;
          range = All-tail (IsInRange (room_of o)) op ops h.range;
          hold = All-tail HoldsNumbers op ops h.hold;
          ahead = beyond code at ps rest e1;
          to = sym (along_on at ps tail) ∙ to1;
          nested = next.nested;
          alike = next.alike;
          marks = marks_on code o op at k labels m.ifs rest opens e1 h.marks;
          ends = h.ends;
          at_place = h1;
        }) in
        ⊎_elim
        (λ awake. step_of code o r apart pins Goal last k at rest labels m.store s h.at_place.closed h.at_place.good awake.1
        (h.marks.later (suc k) (omega arith)) serves op m.ifs
        (All-head (λ x. is_built x ≡ true) op ops h.built) (All-head (IsInRange (room_of o)) op ops h.range) (All-head HoldsNumbers op ops h.hold) opens
        awake.0 e1
        (λ s1 h1. go_on s1 (subst (λ x. At code o r apart pins Goal last s1 (along at ps) labels1 (step r op m).ifs (if x then store_after r op m.store else
        m.store)) (sym (reached_awake (shape_of op) m.ifs awake.0)) h1)))
        (λ z. sleep_of k at rest m.store s h.at_place.closed h.at_place.good op labels m.ifs (holds r op m.store) opens z e1 h.marks
        (λ s1 h1. go_on s1 (subst (λ x. At code o r apart pins Goal last s1 (along at ps) labels1 (step r op m).ifs x) (sym (kept_asleep r op m z.depth z.off))
        h1)))
        h.at_place.stands_at

    -- by the one primitive of an if
    guard_on : (x y z : IntOp) (g : Guard) (ops : List IntOp) (k at : ℕ) (labels : List ℕ) (es : List Bool) (m : Moment) (s : Bytes) →
        guard_by x y z ≡ Some g → Ready (x ∷ y ∷ z ∷ ops) k at labels es m s →
        lists_of o 0 (x ∷ y ∷ z ∷ ops) k labels ≡ put_where o g ∷ lists_of o 0 ops (suc (suc (suc k))) labels →
        ((at1 : ℕ) (s1 : Bytes) → Ready ops (suc (suc (suc k))) at1 labels es (step r z (step r y (step r x m))) s1 → Reaches code Goal last s1) →
        Reaches code Goal last s
    guard_on x y z g ops k at labels es m s is h split next_on =
        let p = put_where o g in
        let tail = lists_of o 0 ops (suc (suc (suc k))) labels in
        let rest = tail ++ back in
        let e1 : drop at code ≡ p ∷ rest = h.ahead ∙ ap (λ l. l ++ back) split in
        let to1 : along (suc at) tail ≡ last = ap (along at) (sym split) ∙ h.to in
        let guarded = guard_facts o r x y z g is in
        let ranges = All-tail (IsInRange (room_of o)) x (y ∷ z ∷ ops) h.range in
        let m3 = step r z (step r y (step r x m)) in
        let go_on : (s1 : Bytes) → At code o r apart pins Goal last s1 (suc at) labels m.ifs
        (if all_run m.ifs then (if same (value_of r m.store g.from) g.is then int.with m.store g.to g.value else m.store) else m.store) →
        Reaches code Goal last s1 =
        λ s1 h1. next_on (suc at) s1 (record {
          built = All-tail (λ q. is_built q ≡ true) z ops (All-tail (λ q. is_built q ≡ true) y (z ∷ ops) (All-tail (λ q. is_built q ≡ true) x (y ∷ z ∷ ops)
              h.built));
          range = All-tail (IsInRange (room_of o)) z ops (All-tail (IsInRange (room_of o)) y (z ∷ ops) ranges);
          hold = All-tail HoldsNumbers z ops (All-tail HoldsNumbers y (z ∷ ops) (All-tail HoldsNumbers x (y ∷ z ∷ ops) h.hold));
          ahead = behind code at p rest e1;
          to = to1;
          nested = sym (guarded.nest ops es) ∙ h.nested;
          alike = subst (λ ifs. Alike labels ifs es) (sym (guarded.ifs m)) h.alike;
          marks = marks_far code (suc at) (suc k) (suc (suc (suc k))) labels (omega arith) (marks_plain code at k labels (p ∷ []) rest e1 ((λ l. refl), tt)
              h.marks);
          ends = h.ends;
          at_place = subst (λ ifs. At code o r apart pins Goal last s1 (suc at) labels ifs m3.store) (sym (guarded.ifs m))
              (subst (λ t. At code o r apart pins Goal last s1 (suc at) labels m.ifs t) (sym (guarded.store m)) h1);
        }) in
        ⊎_elim
        (λ awake. guard_step code o r apart pins Goal last k at rest labels m.ifs m.store s h.at_place.closed h.at_place.good awake.0 awake.1 g.from g.is g.to
        g.value
        (guarded.source (All-head (IsInRange (room_of o)) x (y ∷ z ∷ ops) h.range)) (guarded.dest (All-head (IsInRange (room_of o)) y (z ∷ ops) ranges)) e1
        (λ s1 h1. go_on s1 (subst (λ b. At code o r apart pins Goal last s1 (suc at) labels m.ifs
        (if b then (if same (value_of r m.store g.from) g.is then int.with m.store g.to g.value else m.store) else m.store)) (sym awake.0) h1)))
        (λ w. still k at rest m.store s h.at_place.closed h.at_place.good labels m.ifs (suc at) w
        (λ s1 h1. go_on s1 (subst (λ b. At code o r apart pins Goal last s1 (suc at) labels m.ifs
        (if b then (if same (value_of r m.store g.from) g.is then int.with m.store g.to g.value else m.store) else m.store))
        (sym (off_stops w.depth m.ifs w.off)) h1)))
        h.at_place.stands_at

    three_on : (x y z : IntOp) (ops : List IntOp) (k at : ℕ) (labels : List ℕ) (es : List Bool) (m : Moment) (s : Bytes) (g : Option Guard) →
        guard_by x y z ≡ g → Ready (x ∷ y ∷ z ∷ ops) k at labels es m s →
        ((at1 : ℕ) (es1 : List Bool) (s1 : Bytes) → Ready (y ∷ z ∷ ops) (suc k) at1 (labels_behind (shape_of x) k labels) es1 (step r x m) s1 →
        Reaches code Goal last s1) →
        ((at1 : ℕ) (s1 : Bytes) → Ready ops (suc (suc (suc k))) at1 labels es (step r z (step r y (step r x m))) s1 → Reaches code Goal last s1) →
        Reaches code Goal last s
    three_on x y z ops k at labels es m s None is h one far =
        one_on x (y ∷ z ∷ ops) k at labels es m s h
        (ap (λ g. joined g (λ q. put_where o q ∷ lists_of o 2 (y ∷ z ∷ ops) (suc k) labels) (list_of o x (label_of k) (top_of labels) ++ lists_of o 0
        (y ∷ z ∷ ops) (suc k) (labels_behind (shape_of x) k labels))) is) one
    three_on x y z ops k at labels es m s (Some g) is h one far =
        guard_on x y z g ops k at labels es m s is h
        (ap (λ g. joined g (λ q. put_where o q ∷ lists_of o 2 (y ∷ z ∷ ops) (suc k) labels) (list_of o x (label_of k) (top_of labels) ++ lists_of o 0
        (y ∷ z ∷ ops) (suc k) (labels_behind (shape_of x) k labels))) is) far

    -- to where all have been run
    pub walk : (ops : List IntOp) (k at : ℕ) (labels : List ℕ) (es : List Bool) (m : Moment) (s : Bytes) → Ready ops k at labels es m s →
        Reaches code Goal last s
    walk [] k at labels es m s h = at_last k at labels es m s h
    walk (x ∷ []) k at labels es m s h = one_on x [] k at labels es m s h refl (λ at1 es1 s1 h1. walk [] (suc k) at1 (labels_behind (shape_of x) k labels) es1
        (step r x m) s1 h1)
    walk (x ∷ y ∷ []) k at labels es m s h = one_on x (y ∷ []) k at labels es m s h refl (λ at1 es1 s1 h1. walk (y ∷ []) (suc k) at1
        (labels_behind (shape_of x) k labels) es1 (step r x m) s1 h1)
    walk (x ∷ y ∷ z ∷ ops) k at labels es m s h =
        three_on x y z ops k at labels es m s (guard_by x y z) refl h
        (λ at1 es1 s1 h1. walk (y ∷ z ∷ ops) (suc k) at1 (labels_behind (shape_of x) k labels) es1 (step r x m) s1 h1)
        (λ at1 s1 h1. walk ops (suc (suc (suc k))) at1 labels es (step r z (step r y (step r x m))) s1 h1)
