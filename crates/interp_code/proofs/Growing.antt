-- What was read is what the lines say.
use Rattle.std.proofs.Common.{◌≡◌, ℕ, suc, ◌+◌, ◌≤◌, Bool, true, false, not, ◌&&◌, if◌then◌else◌, nat_le, nat_lt, nat_eq, List, [], ◌∷◌, ◌++◌, length, map, Option, Some, None, ℤ, refl, sym, ap, ◌∙◌, append_assoc, arith, All, length-append}
use Rattle.std.proofs.lemmas.Bool.{and_parts}
use Rattle.std.proofs.lemmas.Bool.Decides.{nat_tests}
use Rattle.std.proofs.lemmas.List.{map-append, append-nil}
use Rattle.std.proofs.lemmas.List.Elements.{All-nil, All-push}
use Rattle.std.proofs.lemmas.List.Folds.{list_all-append}
use Rattle.std.specs.Option.{option_map}
use Rattle.std.specs.List.{list_any, list_all}
use Rattle.std.specs.Str.{bytes_eq}
use Rattle.ladder_tree.specs.declared.names.Names.{Names}
use Rattle.ladder_tree.specs.Names.{is_name_within}
use Rattle.int_code.specs.declared.op.IntOp.{IntOp}
use Rattle.int_code.specs.declared.op.Shape.{Shape}
use Rattle.int_code.specs.declared.op.Shape.TheVariants.{Opens, Turns, Closes, Plain}
use Rattle.int_code.specs.Shapes.{shape_of}
use Rattle.int_code.specs.WellFormed.{Sizes, IsInRange, nests, nests_by}
use Rattle.interp_code.specs.declared.reader.Stage.{Stage}
use Rattle.interp_code.specs.declared.reader.Stage.TheVariants as stage
use Rattle.interp_code.specs.Line.{Line, Magic, Cycle, Input, Output, Analog, Variable, Relay, Persistent, BitCount, Code, Operation, End}
use Rattle.interp_code.specs.Text.{variables}
use Rattle.int_code.specs.declared.limits.TheConstants.{MOST_BITS, MOST_PERSISTENT}
use Rattle.interp_code.specs.Program.{differ_from, all_differ, are_in}
use Rattle.interp_code.specs.Refused.{operations_of}
use Rattle.texts.specs.Keys.{with_key}
use Rattle.interp_code.specs.Draft.{Draft, start, sizes, is_in_range, ifs_behind, is_none, step_kept, step_at}
use Rattle.interp_code.proofs.SaidLines.{IsInForm}
use Rattle.interp_code.proofs.RangeTests.{range_decides}
use Rattle.interp_code.proofs.TextLemmas.{variables_push}

abbrev pub names_said : Draft → List Line → List Line
names_said d rest =
    map Input d.names.inputs ++ (map Output d.names.outputs ++ (map Analog d.names.analog ++ (variables d.names.variables d.starts
    ++ (map Relay d.names.relays ++ (map Persistent d.names.persistent ++ rest)))))

abbrev pub written_at : Stage → Draft → List Line
written_at stage.Start d = []
written_at stage.Headed d = Magic ∷ []
written_at stage.Named d = Magic ∷ (Cycle d.cycle ∷ names_said d [])
written_at stage.Kept d = Magic ∷ (Cycle d.cycle ∷ names_said d [])
written_at stage.Sized d = Magic ∷ (Cycle d.cycle ∷ names_said d (BitCount d.bits ∷ []))
written_at stage.Coded d = Magic ∷ (Cycle d.cycle ∷ names_said d (BitCount d.bits ∷ (Code ∷ map Operation d.ops)))
written_at stage.Ended d = Magic ∷ (Cycle d.cycle ∷ names_said d (BitCount d.bits ∷ (Code ∷ (map Operation d.ops ++ End ∷ []))))

abbrev pub written : Draft → List Line
written d = written_at d.stage d

-- the names of a text, with a start value for each variable
pub record GoodNames (ns : Names) (values : List ℤ) : Type 0 where
  pub inputs : all_differ ns.inputs ≡ true
  pub outputs : all_differ ns.outputs ≡ true
  pub analogs : all_differ ns.analog ≡ true
  pub variables : all_differ ns.variables ≡ true
  pub relays : all_differ ns.relays ≡ true
  pub persistent : all_differ ns.persistent ≡ true
  pub analog_names : list_all (is_name_within 66) ns.analog ≡ true
  pub persistent_variables : are_in ns.variables ns.persistent ≡ true
  pub starts : length values ≡ length ns.variables
  pub few_relays : length ns.relays ≤ MOST_BITS
  pub few_persistent : length ns.persistent ≤ MOST_PERSISTENT

-- the operations so far
pub record GoodOps (n : Sizes) (ops : List IntOp) (ifs : List Bool) : Type 0 where
  pub range : All (IsInRange n) ops
  pub open_ifs : (rest : List IntOp) → nests (ops ++ rest) [] ≡ nests rest ifs

-- nothing was read but the heading
pub record IsNew (d : Draft) : Type 0 where
  pub inputs : d.names.inputs ≡ []
  pub outputs : d.names.outputs ≡ []
  pub analogs : d.names.analog ≡ []
  pub variables : d.names.variables ≡ []
  pub relays : d.names.relays ≡ []
  pub persistent : d.names.persistent ≡ []
  pub ops : d.ops ≡ []
  pub ifs : d.ifs ≡ []

-- all names were read, and the number of bits
pub record IsSized (d : Draft) : Type 0 where
  pub analog_variables : are_in d.names.variables d.names.analog ≡ true
  pub enough : length d.names.relays ≤ d.bits
  pub few : d.bits ≤ MOST_BITS

abbrev pub GoodAt : Stage → Draft → Type 0
GoodAt stage.Start d = IsNew d
GoodAt stage.Headed d = IsNew d
GoodAt stage.Named d = (d.names.relays ≡ []) × (d.names.persistent ≡ []) × (d.ops ≡ []) × (d.ifs ≡ [])
GoodAt stage.Kept d = (are_in d.names.variables d.names.analog ≡ true) × (d.ops ≡ []) × (d.ifs ≡ [])
GoodAt stage.Sized d = IsSized d × (d.ops ≡ []) × (d.ifs ≡ [])
GoodAt stage.Coded d = IsSized d
GoodAt stage.Ended d = IsSized d × (d.ifs ≡ [])

pub record Good (d : Draft) : Type 0 where
  pub names : GoodNames d.names d.starts
  pub operations : GoodOps (sizes d) d.ops d.ifs
  pub at : GoodAt d.stage d

pub good_start : Good start
good_start = record {
  names = record {
    inputs = refl;
    outputs = refl;
    analogs = refl;
    variables = refl;
    relays = refl;
    persistent = refl;
    analog_names = refl;
    persistent_variables = refl;
    starts = refl;
    few_relays = omega arith;
    few_persistent = omega arith;
  };
  operations = record { range = All-nil (IsInRange (sizes start)); open_ifs = λ rest. refl };
  at = record { inputs = refl; outputs = refl; analogs = refl; variables = refl; relays = refl; persistent = refl; ops = refl; ifs = refl };
}

-- a line more was read
pub record Grown (d : Draft) (l : Line) (e : Draft) : Type 0 where
  pub more : written e ≡ written d ++ l ∷ []
  pub count : length e.ops ≡ length d.ops + operations_of (Some l)
  pub good : Good e

abbrev pub Grows : Draft → Line → Option Draft → Type 0
Grows d l None = Unit {0}
Grows d l (Some e) = Grown d l e

if_grows : (d : Draft) (l : Line) (b : Bool) (o : Option Draft) → (b ≡ true → Grows d l o) → Grows d l (if b then o else None)
if_grows d l true o h = h refl
if_grows d l false o h = tt

name_grows : (d : Draft) (l : Line) (n : List ℕ) (ns : List (List ℕ)) (f : List (List ℕ) → Draft)
    → (list_any (bytes_eq n) ns ≡ false → Grown d l (f (ns ++ n ∷ []))) → Grows d l (option_map f (with_key n ns))
name_grows d l n ns f h = by (list_any (bytes_eq n) ns) h
  where
    by : (b : Bool) → (b ≡ false → Grown d l (f (ns ++ n ∷ []))) → Grows d l (option_map f (if b then None else Some (ns ++ n ∷ [])))
    by true h = tt
    by false h = h refl

ifs_grow : (d : Draft) (l : Line) (f : List Bool → Draft) (o : Option (List Bool)) → ((es : List Bool) → o ≡ Some es → Grown d l (f es))
    → Grows d l (option_map f o)
ifs_grow d l f None h = tt
ifs_grow d l f (Some es) h = h es refl

differ_more : (seen ns : List (List ℕ)) (n : List ℕ) → differ_from seen ns ≡ true → list_any (bytes_eq n) (seen ++ ns) ≡ false
    → differ_from seen (ns ++ n ∷ []) ≡ true
differ_more seen [] n h new = let plain : list_any (bytes_eq n) seen ≡ false = ap (list_any (bytes_eq n)) (sym (append-nil seen)) ∙ new in rw plain refl
differ_more seen (m ∷ ns) n h new =
    let first = (and_parts (not (list_any (bytes_eq m) seen)) (differ_from (seen ++ m ∷ []) ns) h).0 in
    let others = (and_parts (not (list_any (bytes_eq m) seen)) (differ_from (seen ++ m ∷ []) ns) h).1 in
    rw first (differ_more (seen ++ m ∷ []) ns n others (ap (list_any (bytes_eq n)) (append_assoc seen (m ∷ []) ns) ∙ new))

differ_push : (ns : List (List ℕ)) (n : List ℕ) → all_differ ns ≡ true → list_any (bytes_eq n) ns ≡ false → all_differ (ns ++ n ∷ []) ≡ true
differ_push ns n h new = differ_more [] ns n h new

suc_is_some : (n : ℕ) → nat_eq (suc n) 0 ≡ true → ⊥
suc_is_some n h = grind (arith, nat_tests)

none_is : {A : Type 0} (xs : List A) → is_none xs ≡ true → xs ≡ []
none_is [] h = refl
none_is (x ∷ xs) h = absurd (suc_is_some (length xs) h)

-- where there are no operations, they are in any range
no_ops : (n m : Sizes) (ops : List IntOp) (ifs : List Bool) → ops ≡ [] → GoodOps n ops ifs → GoodOps m ops ifs
no_ops n m ops ifs h g = record { range = rw h (All-nil (IsInRange m)); open_ifs = g.open_ifs }

no_variables : (ns : List (List ℕ)) (values : List ℤ) → ns ≡ [] → variables ns values ≡ []
no_variables ns values h = rw h refl

-- a line more at the end of lists
last : (x y : List Line) (l : Line) → y ≡ x ++ l ∷ [] → y ++ [] ≡ (x ++ []) ++ l ∷ []
last x y l h = append-nil y ∙ h ∙ ap (λ ls. ls ++ l ∷ []) (sym (append-nil x))

behind : (a s t : List Line) (l : Line) → t ≡ s ++ l ∷ [] → a ++ t ≡ (a ++ s) ++ l ∷ []
behind a s t l h = ap (λ ls. a ++ ls) h ∙ sym (append_assoc a s (l ∷ []))

headed : (c : ℕ) (s t : List Line) (l : Line) → t ≡ s ++ l ∷ [] → Magic ∷ (Cycle c ∷ t) ≡ (Magic ∷ (Cycle c ∷ s)) ++ l ∷ []
headed c s t l h = ap (λ ls. Magic ∷ (Cycle c ∷ ls)) h

-- names of a kind, and one more
one_more : (f : List ℕ → Line) (ns : List (List ℕ)) (n : List ℕ) → map f (ns ++ n ∷ []) ++ [] ≡ (map f ns ++ []) ++ f n ∷ []
one_more f ns n = last (map f ns) (map f (ns ++ n ∷ [])) (f n) (map-append f ns (n ∷ []))

magic_grown : (d : Draft) → Good (record d { stage = stage.Start }) → Grown (record d { stage = stage.Start }) Magic (record d { stage = stage.Headed })
magic_grown d g = record { more = refl; count = omega arith; good = record { names = g.names; operations = g.operations; at = new } }
  where
    new : IsNew (record d { stage = stage.Headed })
    new = record {
      inputs = g.at.inputs;
      outputs = g.at.outputs;
      analogs = g.at.analogs;
      variables = g.at.variables;
      relays = g.at.relays;
      persistent = g.at.persistent;
      ops = g.at.ops;
      ifs = g.at.ifs;
    }

cycle_grown : (d : Draft) (n : ℕ) → Good (record d { stage = stage.Headed })
    → Grown (record d { stage = stage.Headed }) (Cycle n) (record d { stage = stage.Named; cycle = n })
cycle_grown d n g = record {
  more = rw (g.at.inputs, g.at.outputs, g.at.analogs, no_variables d.names.variables d.starts g.at.variables, g.at.relays, g.at.persistent) refl;
  count = omega arith;
  good = record { names = g.names; operations = g.operations; at = (g.at.relays, g.at.persistent, g.at.ops, g.at.ifs) };
}

input_grown : (d : Draft) (n : List ℕ) → (is_none d.names.outputs && (is_none d.names.analog && is_none d.names.variables)) ≡ true
    → list_any (bytes_eq n) d.names.inputs ≡ false → Good (record d { stage = stage.Named })
    → Grown (record d { stage = stage.Named }) (Input n) (record d { stage = stage.Named; names = record d.names { inputs = d.names.inputs ++ n ∷ [] } })
input_grown d n none new g = record {
  more =
      rw (no_outputs, no_analogs, no_variables d.names.variables d.starts no_vars, g.at.0, g.at.1)
      (headed d.cycle _ _ (Input n) (one_more Input d.names.inputs n));
  count = omega arith;
  good = record {
    names = record {
      inputs = differ_push d.names.inputs n g.names.inputs new;
      outputs = g.names.outputs;
      analogs = g.names.analogs;
      variables = g.names.variables;
      relays = g.names.relays;
      persistent = g.names.persistent;
      analog_names = g.names.analog_names;
      persistent_variables = g.names.persistent_variables;
      starts = g.names.starts;
      few_relays = g.names.few_relays;
      few_persistent = g.names.few_persistent;
    };
    operations = no_ops _ _ d.ops d.ifs g.at.2 g.operations;
    at = g.at;
  };
}
  where
    no_outputs : d.names.outputs ≡ []
    no_outputs = none_is d.names.outputs (and_parts (is_none d.names.outputs) _ none).0

    no_analogs : d.names.analog ≡ []
    no_analogs = none_is d.names.analog (and_parts (is_none d.names.analog) (is_none d.names.variables) (and_parts (is_none d.names.outputs) _ none).1).0

    no_vars : d.names.variables ≡ []
    no_vars = none_is d.names.variables (and_parts (is_none d.names.analog) (is_none d.names.variables) (and_parts (is_none d.names.outputs) _ none).1).1

output_grown : (d : Draft) (n : List ℕ) → (is_none d.names.analog && is_none d.names.variables) ≡ true → list_any (bytes_eq n) d.names.outputs ≡ false
    → Good (record d { stage = stage.Named })
    → Grown (record d { stage = stage.Named }) (Output n) (record d { stage = stage.Named; names = record d.names { outputs = d.names.outputs ++ n ∷ [] } })
output_grown d n none new g = record {
  more =
      rw (no_analogs, no_variables d.names.variables d.starts no_vars, g.at.0, g.at.1)
      (headed d.cycle _ _ (Output n) (behind (map Input d.names.inputs) _ _ (Output n) (one_more Output d.names.outputs n)));
  count = omega arith;
  good = record {
    names = record {
      inputs = g.names.inputs;
      outputs = differ_push d.names.outputs n g.names.outputs new;
      analogs = g.names.analogs;
      variables = g.names.variables;
      relays = g.names.relays;
      persistent = g.names.persistent;
      analog_names = g.names.analog_names;
      persistent_variables = g.names.persistent_variables;
      starts = g.names.starts;
      few_relays = g.names.few_relays;
      few_persistent = g.names.few_persistent;
    };
    operations = no_ops _ _ d.ops d.ifs g.at.2 g.operations;
    at = g.at;
  };
}
  where
    no_analogs : d.names.analog ≡ []
    no_analogs = none_is d.names.analog (and_parts (is_none d.names.analog) (is_none d.names.variables) none).0

    no_vars : d.names.variables ≡ []
    no_vars = none_is d.names.variables (and_parts (is_none d.names.analog) (is_none d.names.variables) none).1

analog_grown : (d : Draft) (n : List ℕ) → is_none d.names.variables ≡ true → list_any (bytes_eq n) d.names.analog ≡ false → is_name_within 66 n ≡ true
    → Good (record d { stage = stage.Named })
    → Grown (record d { stage = stage.Named }) (Analog n) (record d { stage = stage.Named; names = record d.names { analog = d.names.analog ++ n ∷ [] } })
analog_grown d n none new named g = record {
  more = rw (no_variables d.names.variables d.starts (none_is d.names.variables none), g.at.0, g.at.1)
      (headed d.cycle _ _ (Analog n) (behind (map Input d.names.inputs) _ _ (Analog n) (behind (map Output d.names.outputs) _ _ (Analog n)
      (one_more Analog d.names.analog n))));
  count = omega arith;
  good = record {
    names = record {
      inputs = g.names.inputs;
      outputs = g.names.outputs;
      analogs = differ_push d.names.analog n g.names.analogs new;
      variables = g.names.variables;
      relays = g.names.relays;
      persistent = g.names.persistent;
      analog_names = list_all-append (is_name_within 66) d.names.analog (n ∷ []) ∙ rw (g.names.analog_names, named) refl;
      persistent_variables = g.names.persistent_variables;
      starts = g.names.starts;
      few_relays = g.names.few_relays;
      few_persistent = g.names.few_persistent;
    };
    operations = no_ops _ _ d.ops d.ifs g.at.2 g.operations;
    at = g.at;
  };
}

variable_grown : (d : Draft) (n : List ℕ) (value : ℤ) → list_any (bytes_eq n) d.names.variables ≡ false → Good (record d { stage = stage.Named })
    → Grown (record d { stage = stage.Named }) (Variable n value)
    (record d { stage = stage.Named; names = record d.names { variables = d.names.variables ++ n ∷ [] }; starts = d.starts ++ value ∷ [] })
variable_grown d n value new g = record {
  more =
      let last_one = last (variables d.names.variables d.starts) (variables (d.names.variables ++ n ∷ []) (d.starts ++ value ∷ [])) (Variable n value)
      (variables_push d.names.variables d.starts n value g.names.starts) in
      rw (g.at.0, g.at.1) (headed d.cycle _ _ (Variable n value) (behind (map Input d.names.inputs) _ _ (Variable n value)
      (behind (map Output d.names.outputs) _ _ (Variable n value) (behind (map Analog d.names.analog) _ _ (Variable n value) last_one))));
  count = omega arith;
  good = record {
    names = record {
      inputs = g.names.inputs;
      outputs = g.names.outputs;
      analogs = g.names.analogs;
      variables = differ_push d.names.variables n g.names.variables new;
      relays = g.names.relays;
      persistent = g.names.persistent;
      analog_names = g.names.analog_names;
      persistent_variables = rw g.at.1 refl;
      starts = let a = length-append d.starts (value ∷ []) in let b = length-append d.names.variables (n ∷ []) in let same = g.names.starts in omega arith;
      few_relays = g.names.few_relays;
      few_persistent = g.names.few_persistent;
    };
    operations = no_ops _ _ d.ops d.ifs g.at.2 g.operations;
    at = g.at;
  };
}

relay_grown : (d : Draft) (n : List ℕ) → (is_none d.names.persistent && nat_lt (length d.names.relays) MOST_BITS) ≡ true
    → list_any (bytes_eq n) d.names.relays ≡ false → Good (record d { stage = stage.Kept })
    → Grown (record d { stage = stage.Kept }) (Relay n) (record d { stage = stage.Kept; names = record d.names { relays = d.names.relays ++ n ∷ [] } })
relay_grown d n room new g = record {
  more = rw none (headed d.cycle _ _ (Relay n) (behind (map Input d.names.inputs) _ _ (Relay n) (behind (map Output d.names.outputs) _ _ (Relay n)
      (behind (map Analog d.names.analog) _ _ (Relay n) (behind (variables d.names.variables d.starts) _ _ (Relay n) (one_more Relay d.names.relays n))))));
  count = omega arith;
  good = record {
    names = record {
      inputs = g.names.inputs;
      outputs = g.names.outputs;
      analogs = g.names.analogs;
      variables = g.names.variables;
      relays = differ_push d.names.relays n g.names.relays new;
      persistent = g.names.persistent;
      analog_names = g.names.analog_names;
      persistent_variables = g.names.persistent_variables;
      starts = g.names.starts;
      few_relays = let long = length-append d.names.relays (n ∷ []) in grind (arith, nat_tests, few);
      few_persistent = g.names.few_persistent;
    };
    operations = no_ops _ _ d.ops d.ifs g.at.1 g.operations;
    at = g.at;
  };
}
  where
    none : d.names.persistent ≡ []
    none = none_is d.names.persistent (and_parts (is_none d.names.persistent) _ room).0

    few : nat_lt (length d.names.relays) MOST_BITS ≡ true
    few = (and_parts (is_none d.names.persistent) _ room).1

persistent_grown : (d : Draft) (n : List ℕ) → (list_any (bytes_eq n) d.names.variables && nat_lt (length d.names.persistent) MOST_PERSISTENT) ≡ true
    → list_any (bytes_eq n) d.names.persistent ≡ false → Good (record d { stage = stage.Kept })
    → Grown (record d { stage = stage.Kept }) (Persistent n)
    (record d { stage = stage.Kept; names = record d.names { persistent = d.names.persistent ++ n ∷ [] } })
persistent_grown d n room new g = record {
  more = simp (map-append, append_assoc, append-nil);
  count = omega arith;
  good = record {
    names = record {
      inputs = g.names.inputs;
      outputs = g.names.outputs;
      analogs = g.names.analogs;
      variables = g.names.variables;
      relays = g.names.relays;
      persistent = differ_push d.names.persistent n g.names.persistent new;
      analog_names = g.names.analog_names;
      persistent_variables =
          list_all-append (λ m. list_any (bytes_eq m) d.names.variables) d.names.persistent (n ∷ []) ∙ rw (g.names.persistent_variables, is_variable) refl;
      starts = g.names.starts;
      few_relays = g.names.few_relays;
      few_persistent = let long = length-append d.names.persistent (n ∷ []) in grind (arith, nat_tests, few);
    };
    operations = no_ops _ _ d.ops d.ifs g.at.1 g.operations;
    at = g.at;
  };
}
  where
    is_variable : list_any (bytes_eq n) d.names.variables ≡ true
    is_variable = (and_parts (list_any (bytes_eq n) d.names.variables) _ room).0

    few : nat_lt (length d.names.persistent) MOST_PERSISTENT ≡ true
    few = (and_parts (list_any (bytes_eq n) d.names.variables) _ room).1

bits_grown : (d : Draft) (n : ℕ) → (nat_le (length d.names.relays) n && nat_le n MOST_BITS) ≡ true → Good (record d { stage = stage.Kept })
    → Grown (record d { stage = stage.Kept }) (BitCount n) (record d { stage = stage.Sized; bits = n })
bits_grown d n fits g = record {
  more = simp (append_assoc, append-nil);
  count = omega arith;
  good = record {
    names = g.names;
    operations = no_ops _ _ d.ops d.ifs g.at.1 g.operations;
    at = (record { analog_variables = g.at.0; enough = grind (arith, nat_tests, enough); few = grind (arith, nat_tests, few) }, g.at.1, g.at.2);
  };
}
  where
    enough : nat_le (length d.names.relays) n ≡ true
    enough = (and_parts (nat_le (length d.names.relays) n) (nat_le n MOST_BITS) fits).0

    few : nat_le n MOST_BITS ≡ true
    few = (and_parts (nat_le (length d.names.relays) n) (nat_le n MOST_BITS) fits).1

-- what was sized stays so
still_sized : (s t : Stage) (d : Draft) (ops : List IntOp) (es : List Bool) → IsSized (record d { stage = s })
    → IsSized (record d { stage = t; ops = ops; ifs = es })
still_sized s t d ops es h = record { analog_variables = h.analog_variables; enough = h.enough; few = h.few }

code_grown : (d : Draft) → Good (record d { stage = stage.Sized }) → Grown (record d { stage = stage.Sized }) Code (record d { stage = stage.Coded })
code_grown d g = record {
  more = rw g.at.1 (simp append_assoc);
  count = omega arith;
  good = record { names = g.names; operations = g.operations; at = still_sized stage.Sized stage.Coded d d.ops d.ifs g.at.0 };
}

nests_step : (s : Shape) (es fs : List Bool) (rest : List Bool → Bool) → ifs_behind s es ≡ Some fs → nests_by s rest es ≡ rest fs
nests_step Opens es fs rest h = ap rest cc
nests_step Turns [] fs rest h = absurd cc
nests_step Turns (true ∷ es) fs rest h = absurd cc
nests_step Turns (false ∷ es) fs rest h = ap rest cc
nests_step Closes [] fs rest h = absurd cc
nests_step Closes (e ∷ es) fs rest h = ap rest cc
nests_step Plain es fs rest h = ap rest cc

op_grown : (d : Draft) (op : IntOp) (es : List Bool) → is_in_range (sizes d) op ≡ true → ifs_behind (shape_of op) d.ifs ≡ Some es
    → Good (record d { stage = stage.Coded })
    → Grown (record d { stage = stage.Coded }) (Operation op) (record d { stage = stage.Coded; ops = d.ops ++ op ∷ []; ifs = es })
op_grown d op es range behind g = record {
  more = simp (map-append, append_assoc);
  count = length-append d.ops (op ∷ []);
  good = record {
    names = g.names;
    operations = record {
      range = All-push (IsInRange (sizes d)) d.ops op g.operations.range ((range_decides (sizes d) op).0 range);
      open_ifs =
          λ rest. ap (λ ops. nests ops []) (append_assoc d.ops (op ∷ []) rest) ∙ g.operations.open_ifs (op ∷ rest)
          ∙ nests_step (shape_of op) d.ifs es (nests rest) behind;
    };
    at = still_sized stage.Coded stage.Coded d (d.ops ++ op ∷ []) es g.at;
  };
}

end_grown : (d : Draft) → is_none d.ifs ≡ true → Good (record d { stage = stage.Coded })
    → Grown (record d { stage = stage.Coded }) End (record d { stage = stage.Ended })
end_grown d none g = record {
  more = simp append_assoc;
  count = omega arith;
  good = record { names = g.names; operations = g.operations; at = (still_sized stage.Coded stage.Ended d d.ops d.ifs g.at, none_is d.ifs none) };
}

grow_kept : (d : Draft) (l : Line) → Good (record d { stage = stage.Kept }) → Grows (record d { stage = stage.Kept }) l (step_kept d l)
grow_kept d (Relay n) g =
    if_grows (record d { stage = stage.Kept }) (Relay n) (is_none d.names.persistent && nat_lt (length d.names.relays) MOST_BITS) _ (λ room.
    name_grows (record d { stage = stage.Kept }) (Relay n) n d.names.relays (λ ns. record d { stage = stage.Kept; names = record d.names { relays = ns } })
    (λ new. relay_grown d n room new g))
grow_kept d (Persistent n) g =
    if_grows (record d { stage = stage.Kept }) (Persistent n) (list_any (bytes_eq n) d.names.variables && nat_lt (length d.names.persistent) MOST_PERSISTENT) _
    (λ room.
    name_grows (record d { stage = stage.Kept }) (Persistent n) n d.names.persistent
    (λ ns. record d { stage = stage.Kept; names = record d.names { persistent = ns } }) (λ new. persistent_grown d n room new g))
grow_kept d (BitCount n) g =
    if_grows (record d { stage = stage.Kept }) (BitCount n) (nat_le (length d.names.relays) n && nat_le n MOST_BITS) _ (λ fits. bits_grown d n fits g)
grow_kept d l g = tt

-- Where each analog name is a variable, lines may come that stand behind the variables.
as_kept : (d : Draft) → are_in d.names.variables d.names.analog ≡ true → Good (record d { stage = stage.Named }) → Good (record d { stage = stage.Kept })
as_kept d h g = record { names = g.names; operations = g.operations; at = (h, g.at.2, g.at.3) }

from_kept : (d : Draft) (l : Line) (o : Option Draft) → Grows (record d { stage = stage.Kept }) l o → Grows (record d { stage = stage.Named }) l o
from_kept d l None g = tt
from_kept d l (Some e) g = record { more = g.more; count = g.count; good = g.good }

grow_on : (d : Draft) (l : Line) → Good (record d { stage = stage.Named })
    → Grows (record d { stage = stage.Named }) l (if are_in d.names.variables d.names.analog then step_kept d l else None)
grow_on d l g =
    if_grows (record d { stage = stage.Named }) l (are_in d.names.variables d.names.analog) (step_kept d l)
    (λ h. from_kept d l (step_kept d l) (grow_kept d l (as_kept d h g)))

pub grow : (s : Stage) (d : Draft) (l : Line) → IsInForm l → Good (record d { stage = s })
    → Grows (record d { stage = s }) l (step_at s (record d { stage = s }) l)
grow stage.Start d Magic named g = magic_grown d g
grow stage.Headed d (Cycle n) named g = cycle_grown d n g
grow stage.Named d (Input n) named g =
    if_grows (record d { stage = stage.Named }) (Input n) (is_none d.names.outputs && (is_none d.names.analog && is_none d.names.variables)) _ (λ none.
    name_grows (record d { stage = stage.Named }) (Input n) n d.names.inputs (λ ns. record d { stage = stage.Named; names = record d.names { inputs = ns } })
    (λ new. input_grown d n none new g))
grow stage.Named d (Output n) named g =
    if_grows (record d { stage = stage.Named }) (Output n) (is_none d.names.analog && is_none d.names.variables) _ (λ none.
    name_grows (record d { stage = stage.Named }) (Output n) n d.names.outputs (λ ns. record d { stage = stage.Named; names = record d.names { outputs = ns } })
    (λ new. output_grown d n none new g))
grow stage.Named d (Analog n) named g =
    if_grows (record d { stage = stage.Named }) (Analog n) (is_none d.names.variables) _ (λ none.
    name_grows (record d { stage = stage.Named }) (Analog n) n d.names.analog (λ ns. record d { stage = stage.Named; names = record d.names { analog = ns } })
    (λ new. analog_grown d n none new named g))
grow stage.Named d (Variable n value) named g =
    name_grows (record d { stage = stage.Named }) (Variable n value) n d.names.variables
    (λ ns. record d { stage = stage.Named; names = record d.names { variables = ns }; starts = d.starts ++ value ∷ [] }) (λ new. variable_grown d n value new g)
grow stage.Named d (Relay n) named g = grow_on d (Relay n) g
grow stage.Named d (Persistent n) named g = grow_on d (Persistent n) g
grow stage.Named d (BitCount n) named g = grow_on d (BitCount n) g
grow stage.Named d l named g = grow_on d l g
grow stage.Kept d l named g = grow_kept d l g
grow stage.Sized d Code named g = code_grown d g
grow stage.Coded d (Operation op) named g =
    if_grows (record d { stage = stage.Coded }) (Operation op) (is_in_range (sizes d) op) _ (λ range.
    ifs_grow (record d { stage = stage.Coded }) (Operation op) (λ es. record d { stage = stage.Coded; ops = d.ops ++ op ∷ []; ifs = es })
    (ifs_behind (shape_of op) d.ifs) (λ es behind. op_grown d op es range behind g))
grow stage.Coded d End named g = if_grows (record d { stage = stage.Coded }) End (is_none d.ifs) _ (λ none. end_grown d none g)
grow s d l named g = tt
