-- Over the readings of a trace the numbers of a project's variables have 16 bits.
use Rattle.std.proofs.Common.{◌≡◌, ℕ, ◌<◌, ◌≤◌, Bool, true, false, ◌&&◌, nat_le, List, [], ◌∷◌, length, map, get_or, Option, Some, None, refl, sym, ap, subst, ◌∙◌, arith}
use Rattle.std.specs.Prelude.{ℤ, pos, negsuc, ◌≤ℤ◌, int_le, All, IfSome}
use Rattle.std.specs.List.{list_all}
use Rattle.std.proofs.lemmas.Bool.{and_parts}
use Rattle.std.proofs.lemmas.Int.{ints}
use Rattle.std.proofs.lemmas.List.{get_or_past}
use Rattle.std.proofs.lemmas.List.Elements.{All-nil, All-cons, All-head, All-tail}
use Rattle.std.proofs.lemmas.Bool.Decides.{nat_tests}
use Rattle.ladder_tree.specs.Leaves.{all_leaves}
use Rattle.ladder_tree.specs.declared.element.Leaf as leaf
use Rattle.ladder_tree.specs.declared.element.LeafKind.{LeafKind}
use Rattle.ladder_tree.specs.declared.element.LeafKind.TheVariants.{Contacts, Coil, Osr, Osf, Short, Open, MasterRelay, Placeholder, Comment, Timer, Counter, Reset, Move, Math, Compare, Shift, Table, ReadAdc, SetPwm, Recv, Send, Persist, Linear, Formatted}
use Rattle.ladder_tree.specs.declared.element.Operand.TheVariants.{Var, Num}
use Rattle.ladder_tree.specs.declared.limits.TheConstants.{TABLE_VALUES}
use Rattle.ladder_tree.specs.declared.names.Names.{Names}
use Rattle.ladder_tree.specs.declared.project.Project.{Project}
use Rattle.ladder_meaning.specs.Bounds.{literals, HasNumbers, SeesNumbers, AreNumbers}
use Rattle.ladder_meaning.specs.Cycle.{Ended, start, history}
use Rattle.ladder_meaning.specs.Numbers.{is_number, IsNumber}
use Rattle.ladder_meaning.specs.State.{Seen, seen, place_of}
use Rattle.ladder_meaning.specs.declared.reading.Reading.{Reading}
use Rattle.ladder_meaning.proofs.LawLemmas.{history_numbers}
use Rattle.ladder_lower.specs.Fit.{is_fit_operand, is_fit, all_fit}
use Rattle.ladder_lower.proofs.LiteralLemmas.{start_is_number}
use Rattle.mem_plan.specs.Seen.{IsConverted, IsForChip}

numbers_are : (ns : List ℤ) → list_all is_number ns ≡ true → All IsNumber ns
numbers_are [] h = All-nil IsNumber
numbers_are (n ∷ ns) h = let b = and_parts (is_number n) _ h in All-cons IsNumber n ns b.0 (numbers_are ns b.1)

kind_numbers : (cycle : ℕ) (k : LeafKind) → is_fit cycle k ≡ true → All IsNumber (literals k)
kind_numbers cycle (Move dest (Num n)) h = All-cons IsNumber n [] h (All-nil IsNumber)
kind_numbers cycle (Move dest (Var name)) h = All-nil IsNumber
kind_numbers cycle (Table dest index as_text values) h =
    numbers_are values (and_parts (is_fit_operand index) _ (and_parts (nat_le (length values) TABLE_VALUES) _ h).1).1
kind_numbers cycle (Contacts name neg) h = All-nil IsNumber
kind_numbers cycle (Coil name mode) h = All-nil IsNumber
kind_numbers cycle Osr h = All-nil IsNumber
kind_numbers cycle Osf h = All-nil IsNumber
kind_numbers cycle Short h = All-nil IsNumber
kind_numbers cycle Open h = All-nil IsNumber
kind_numbers cycle MasterRelay h = All-nil IsNumber
kind_numbers cycle Placeholder h = All-nil IsNumber
kind_numbers cycle (Comment text) h = All-nil IsNumber
kind_numbers cycle (Timer how name delay) h = All-nil IsNumber
kind_numbers cycle (Counter how name max) h = All-nil IsNumber
kind_numbers cycle (Reset name) h = All-nil IsNumber
kind_numbers cycle (Math how dest a b) h = All-nil IsNumber
kind_numbers cycle (Compare how a b) h = All-nil IsNumber
kind_numbers cycle (Shift name places) h = All-nil IsNumber
kind_numbers cycle (ReadAdc name) h = All-nil IsNumber
kind_numbers cycle (SetPwm name hz) h = All-nil IsNumber
kind_numbers cycle (Recv name) h = All-nil IsNumber
kind_numbers cycle (Send name) h = All-nil IsNumber
kind_numbers cycle (Persist name) h = All-nil IsNumber
kind_numbers cycle (Linear dest index points) h = All-nil IsNumber
kind_numbers cycle (Formatted name text) h = All-nil IsNumber

abbrev LeafNumbers : leaf.Leaf → Type 0
LeafNumbers l = All IsNumber (literals l.kind)

leaves_numbers : (cycle : ℕ) (ls : List leaf.Leaf) → all_fit cycle ls ≡ true → All LeafNumbers ls
leaves_numbers cycle [] h = All-nil LeafNumbers
leaves_numbers cycle (l ∷ ls) h =
    let b = and_parts (is_fit cycle l.kind) _ h in All-cons LeafNumbers l ls (kind_numbers cycle l.kind b.0) (leaves_numbers cycle ls b.1)

converted_number : (n : ℤ) → IsConverted n → IsNumber n
converted_number (pos k) h =
    let most = h.most in
    let le : k ≤ 1023 = omega (arith, ints) in
    small k (omega arith)
  where
    small : (k : ℕ) → k ≤ 32767 → IsNumber (pos k)
    small k le = grind (arith, ints)
converted_number (negsuc k) h = let least = h.least in absurd (omega (arith, ints))

reading_sees : (n : Names) (r : Reading) → IsForChip n r → IfSome r.rx (λ byte. byte < 256) → SeesNumbers (seen n r)
reading_sees n r fits rx = record { analog = λ name. by (place_of n.analog name); received = rx }
  where
    by : (k : ℕ) → IsNumber (get_or r.analog k (pos 0))
    by k = at (nat_le (length r.analog) k) refl
      where
        at : (b : Bool) → nat_le (length r.analog) k ≡ b → IsNumber (get_or r.analog k (pos 0))
        at true e = subst IsNumber (sym (get_or_past r.analog k (pos 0) (le e))) refl
          where
            le : nat_le (length r.analog) k ≡ true → length r.analog ≤ k
            le h = grind (arith, nat_tests)
        at false e = converted_number (get_or r.analog k (pos 0)) (fits.converted k (pos 0) (lt e))
          where
            lt : nat_le (length r.analog) k ≡ false → k < length r.analog
            lt h = grind (arith, nat_tests)

readings_see : (n : Names) (rs : List Reading) → All (IsForChip n) rs → All (λ (r : Reading). IfSome r.rx (λ byte. byte < 256)) rs
    → All SeesNumbers (map (seen n) rs)
readings_see n [] fits rx = All-nil SeesNumbers
readings_see n (r ∷ rs) fits rx =
    All-cons SeesNumbers (seen n r) (map (seen n) rs)
    (reading_sees n r (All-head (IsForChip n) r rs fits) (All-head (λ (r : Reading). IfSome r.rx (λ byte. byte < 256)) r rs rx))
    (readings_see n rs (All-tail (IsForChip n) r rs fits) (All-tail (λ (r : Reading). IfSome r.rx (λ byte. byte < 256)) r rs rx))

pub short : (p : Project) (n : Names) (eeprom : ℕ → ℕ) (rs : List Reading) → all_fit p.cycle (all_leaves p.rungs) ≡ true → All (IsForChip n) rs
    → All (λ (r : Reading). IfSome r.rx (λ byte. byte < 256)) rs
    → All (λ (e : Ended). AreNumbers e.state.number) (history p (start p eeprom) (map (seen n) rs))
short p n eeprom rs fit fits rx =
    history_numbers p (start p eeprom) (map (seen n) rs) (leaves_numbers p.cycle (all_leaves p.rungs) fit) (readings_see n rs fits rx)
    (λ name. start_is_number p.cycle (all_leaves p.rungs) name fit)
