-- The names of a project have a text: each is a name, and none stands twice in a list.
use Rattle.std.proofs.Common.{◌≡◌, ℕ, ◌≤◌, Bool, true, false, not, ◌&&◌, cond, nat_le, List, [], ◌∷◌, ◌++◌, length, filter, refl, sym, ap, ◌∙◌, arith, subst, append_assoc, append-nil}
use Rattle.std.proofs.lemmas.Bool.{and_from, and_parts}
use Rattle.std.proofs.lemmas.Bool.Decides.{nat_tests}
use Rattle.std.specs.List.{list_any, list_all}
use Rattle.std.specs.Str.{bytes_eq}
use Rattle.ladder_tree.specs.declared.element.Leaf as leaf
use Rattle.ladder_tree.specs.Names.{firsts, firsts_from, all_bits, bit_names, is_name, is_name_within, is_name_byte, is_well_named, has_kind, all_well_named, appearances, is_input, is_output, is_relay, all_named, analog_names, persistent_names, variable_names, names_of}
use Rattle.texts.specs.Digits.{is_digit}
use Rattle.ladder_tree.specs.declared.names.Names.{Names}
use Rattle.ladder_tree.specs.declared.project.Project.{Project}
use Rattle.ladder_tree.specs.declared.project.Rung.{Rung}
use Rattle.ladder_tree.specs.Leaves.{all_leaves}
use Rattle.ladder_tree.specs.declared.limits.TheConstants.{NAME_BYTES}
use Rattle.int_code.specs.declared.op.IntProgram.{IntProgram}
use Rattle.int_code.specs.WellFormed.{IsWellFormed}
use Rattle.ladder_lower.specs.Outcome.{HasSizes, HasRoom}
use Rattle.int_code.specs.Literals.{AllHoldNumbers}
use Rattle.interp_code.specs.Program.{differ_from, all_differ, IsWritable}
use Rattle.ld_line.specs.Range.{is_read_kind}
use Rattle.ldmicro_top.proofs.MemberLemmas.{analog_variables, persistent_variables}
use Rattle.ldmicro_top.proofs.VariableLemmas.{variables_within, analogs_within, persistents_within}

-- one more name that is none of those before
differ_by : (seen xs : List (List ℕ)) (x n : List ℕ) (b : Bool) → (differ_from (seen ++ x ∷ []) xs ≡ true → differ_from (seen ++ x ∷ []) (xs ++ n ∷ []) ≡ true)
    → list_any (bytes_eq x) seen ≡ b → not b && differ_from (seen ++ x ∷ []) xs ≡ true
    → not (list_any (bytes_eq x) seen) && differ_from (seen ++ x ∷ []) (xs ++ n ∷ []) ≡ true
differ_by seen xs x n true rest e k = absurd (cc)
differ_by seen xs x n false rest e k = rw (e, rest k) refl

differ_more : (seen xs : List (List ℕ)) (n : List ℕ) → differ_from seen xs ≡ true → list_any (bytes_eq n) (seen ++ xs) ≡ false
    → differ_from seen (xs ++ n ∷ []) ≡ true
differ_more seen [] n h new = let e : list_any (bytes_eq n) seen ≡ false = ap (list_any (bytes_eq n)) (sym (append-nil seen)) ∙ new in rw e refl
differ_more seen (x ∷ xs) n h new =
    differ_by seen xs x n (list_any (bytes_eq x) seen)
    (λ k. differ_more (seen ++ x ∷ []) xs n k (ap (list_any (bytes_eq n)) (append_assoc seen (x ∷ []) xs) ∙ new)) refl h

firsts_by : (seen ns : List (List ℕ)) (n : List ℕ) (b : Bool) → (differ_from [] (firsts_from seen ns) ≡ true)
    → (list_any (bytes_eq n) seen ≡ false → differ_from [] (firsts_from (seen ++ n ∷ []) ns) ≡ true) → list_any (bytes_eq n) seen ≡ b
    → differ_from [] (cond b (firsts_from seen ns) (firsts_from (seen ++ n ∷ []) ns)) ≡ true
firsts_by seen ns n true known new e = known
firsts_by seen ns n false known new e = new e

firsts_differ_from : (seen ns : List (List ℕ)) → differ_from [] seen ≡ true → differ_from [] (firsts_from seen ns) ≡ true
firsts_differ_from seen [] h = h
firsts_differ_from seen (n ∷ ns) h =
    firsts_by seen ns n (list_any (bytes_eq n) seen) (firsts_differ_from seen ns h)
    (λ e. firsts_differ_from (seen ++ n ∷ []) ns (differ_more [] seen n h e)) refl

pub firsts_differ : (ns : List (List ℕ)) → all_differ (firsts ns) ≡ true
firsts_differ ns = firsts_differ_from [] ns refl

module _ (P : List ℕ → Bool) where
  all_append : (xs ys : List (List ℕ)) → list_all P xs ≡ true → list_all P ys ≡ true → list_all P (xs ++ ys) ≡ true
  all_append [] ys h k = k
  all_append (x ∷ xs) ys h k = and_from (P x) _ (and_parts (P x) _ h).0 (all_append xs ys (and_parts (P x) _ h).1 k)

  filter_by : (b : Bool) (x : List ℕ) (xs : List (List ℕ)) → P x ≡ true → list_all P xs ≡ true → list_all P (cond b (x ∷ xs) xs) ≡ true
  filter_by true x xs h k = and_from (P x) _ h k
  filter_by false x xs h k = k

  all_filter : (Q : List ℕ → Bool) (xs : List (List ℕ)) → list_all P xs ≡ true → list_all P (filter Q xs) ≡ true
  all_filter Q [] h = refl
  all_filter Q (x ∷ xs) h = filter_by (Q x) x (filter Q xs) (and_parts (P x) _ h).0 (all_filter Q xs (and_parts (P x) _ h).1)

  all_by : (b : Bool) (xs ys : List (List ℕ)) → list_all P xs ≡ true → list_all P ys ≡ true → list_all P (cond b xs ys) ≡ true
  all_by true xs ys h k = h
  all_by false xs ys h k = k

  all_firsts_from : (seen ns : List (List ℕ)) → list_all P seen ≡ true → list_all P ns ≡ true → list_all P (firsts_from seen ns) ≡ true
  all_firsts_from seen [] h k = h
  all_firsts_from seen (n ∷ ns) h k =
      all_by (list_any (bytes_eq n) seen) _ _ (all_firsts_from seen ns h (and_parts (P n) _ k).1)
      (all_firsts_from (seen ++ n ∷ []) ns (all_append seen (n ∷ []) h (and_from (P n) true (and_parts (P n) _ k).0 refl)) (and_parts (P n) _ k).1)

bits_named : (ls : List leaf.Leaf) → all_well_named ls ≡ true → list_all is_name (all_bits ls) ≡ true
bits_named [] h = refl
bits_named (l ∷ ls) h =
    all_append is_name (bit_names l.kind) (all_bits ls) (and_parts (has_kind l.kind) _ (and_parts (is_well_named l.kind) _ h).0).1
    (bits_named ls (and_parts (is_well_named l.kind) _ h).1)

pub listed_named : (is_kind : List ℕ → Bool) (ls : List leaf.Leaf) → all_well_named ls ≡ true → list_all is_name (firsts (appearances is_kind ls)) ≡ true
listed_named is_kind ls h = all_firsts_from is_name [] (appearances is_kind ls) refl (all_filter is_name is_kind (all_bits ls) (bits_named ls h))

within_more : (n : ℕ) → nat_le n NAME_BYTES ≡ true → nat_le n 66 ≡ true
within_more n h = grind (arith, nat_tests)

and_last : (a b c d : Bool) → (c ≡ true → d ≡ true) → a && (b && c) ≡ true → a && (b && d) ≡ true
and_last true true c d f h = f h
and_last true false c d f h = cc
and_last false b c d f h = cc

-- a name of a project is short enough for a text
within_66 : (name : List ℕ) → is_name name ≡ true → is_name_within 66 name ≡ true
within_66 [] h = cc
within_66 (b ∷ bs) h =
    and_last (not (is_digit b)) (list_all is_name_byte (b ∷ bs)) (nat_le (length (b ∷ bs)) NAME_BYTES) (nat_le (length (b ∷ bs)) 66)
    (within_more (length (b ∷ bs))) h

all_within : (names : List (List ℕ)) → list_all is_name names ≡ true → list_all (is_name_within 66) names ≡ true
all_within [] h = refl
all_within (n ∷ ns) h = and_from (is_name_within 66 n) _ (within_66 n (and_parts (is_name n) _ h).0) (all_within ns (and_parts (is_name n) _ h).1)

firsts_within : (names : List (List ℕ)) → list_all (is_name_within 66) names ≡ true → list_all (is_name_within 66) (firsts names) ≡ true
firsts_within names h = all_firsts_from (is_name_within 66) [] names refl h

pub listed_within : (is_kind : List ℕ → Bool) (ls : List leaf.Leaf) → all_well_named ls ≡ true
    → list_all (is_name_within 66) (firsts (appearances is_kind ls)) ≡ true
listed_within is_kind ls h = all_within (firsts (appearances is_kind ls)) (listed_named is_kind ls h)

-- a project's names and its program have a text
pub writable : (gs : List Rung) (q : Project) (program : IntProgram) → all_well_named (all_leaves gs) ≡ true
    → list_all (λ l. is_read_kind l.kind) (all_leaves gs) ≡ true → q.cycle ≤ 999999999 → length (names_of gs).persistent ≤ 256 → IsWellFormed program
    → AllHoldNumbers program.ops → HasSizes (names_of gs) q program → HasRoom program → IsWritable q.cycle (names_of gs) program
writable gs q program named read timed few formed numbers sizes room =
    let ls = all_leaves gs in
    record {
      sound = record {
        inputs = firsts_differ (appearances is_input ls);
        outputs = firsts_differ (appearances is_output ls);
        analogs = firsts_differ (all_named analog_names ls);
        variables = firsts_differ (all_named variable_names ls);
        relays = firsts_differ (appearances is_relay ls);
        persistent = firsts_differ (all_named persistent_names ls);
        analog_variables = analog_variables ls;
        persistent_variables = persistent_variables ls;
        input_count = sizes.inputs;
        output_count = sizes.outputs;
        analog_count = sizes.analogs;
        variable_count = sizes.variables;
        persistent_count = sizes.persistent;
        few_persistent = let p = sizes.persistent in omega (arith, p, few);
        bit_count = let kept = sizes.kept in let within = formed.kept in omega arith;
        few_bits = room.bits;
        well_formed = formed;
      };
      inputs = listed_within is_input ls named;
      outputs = listed_within is_output ls named;
      analogs = firsts_within (all_named analog_names ls) (analogs_within ls read);
      variables = firsts_within (all_named variable_names ls) (variables_within ls read);
      relays = listed_within is_relay ls named;
      persistent = firsts_within (all_named persistent_names ls) (persistents_within ls read);
      timed = timed;
      few = room.ops;
      numbers = numbers;
    }

-- the same of the names that were listed
pub writable_names : (q : Project) (n : Names) (program : IntProgram) → n ≡ names_of q.rungs → all_well_named (all_leaves q.rungs) ≡ true
    → list_all (λ l. is_read_kind l.kind) (all_leaves q.rungs) ≡ true → q.cycle ≤ 999999999 → length n.persistent ≤ 256 → IsWellFormed program
    → AllHoldNumbers program.ops → HasSizes n q program → HasRoom program → IsWritable q.cycle n program
writable_names q n program e named read timed few formed numbers sizes room =
    subst (λ (m : Names). IsWritable q.cycle m program) (sym e)
    (writable q.rungs q program named read timed (subst (λ (m : Names). length m.persistent ≤ 256) e few) formed numbers
    (subst (λ (m : Names). HasSizes m q program) e sizes) room)
