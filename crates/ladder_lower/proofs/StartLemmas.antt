-- The start values of variables, written element by element from the last.
use Rattle.std.proofs.Common.{◌≡◌, ℕ, zero, suc, ◌+◌, ◌<◌, ◌≤◌, Bool, true, false, cond, List, [], ◌∷◌, ℤ, pos, length, get_or, set, replicate, drop, map, Bor}
use Rattle.std.proofs.Common.{refl, sym, ap, ◌∙◌, arith, add-one}
use Rattle.std.proofs.lemmas.Bool.Decides.{nat_tests}
use Rattle.std.proofs.lemmas.List.{length-map, drop_all}
use Rattle.std.specs.Prelude.{nat_le}
use Rattle.std.specs.Str.{bytes_eq}
use Rattle.ladder_tree.specs.Names.{all_named, firsts, variable_names}
use Rattle.ladder_tree.specs.declared.element.Leaf as leaf
use Rattle.ladder_tree.specs.declared.element.LeafKind.TheVariants.{Timer}
use Rattle.ladder_tree.specs.declared.element.TimerHow.TheVariants.{Tof}
use Rattle.ladder_meaning.specs.Cycle.{start_by, start_number}
use Rattle.ladder_meaning.specs.Numbers.{period}
use Rattle.ladder_meaning.specs.State.{place_of}
use Rattle.ladder_lower.specs.Apart.{Apart}
use Rattle.ladder_lower.specs.Fit.{is_fit, all_fit}
use Rattle.ladder_lower.proofs.LeafLemmas.{fit_first, fit_back}
use Rattle.ladder_lower.proofs.NameLemmas.{firsts_seen, held_front, held_back}
use Rattle.ladder_lower.proofs.PlaceLemmas.{bytes_tells, bytes_same, place_below}
use Rattle.ladder_lower.proofs.Stands.{held}

-- other numbers stay, and the name's becomes the value
abbrev changed : (List ℕ → ℤ) → List ℕ → ℤ → List ℕ → ℤ
changed f name v n = cond (bytes_eq name n) v (f n)

absent : (f : List ℕ → ℤ) (name : List ℕ) (v : ℤ) (xs : List (List ℕ)) → held xs name ≡ false → map (changed f name v) xs ≡ map f xs
absent f name v [] e = refl
absent f name v (x ∷ xs) e =
    let first : bytes_eq name x ≡ false = grind (arith, bytes_tells, e) in
    let rest : held xs name ≡ false = grind (arith, bytes_tells, e) in
    rw first (ap (λ l. f x ∷ l) (absent f name v xs rest))

written_by : (f : List ℕ → ℤ) (name : List ℕ) (v : ℤ) (x : List ℕ) (xs : List (List ℕ)) (b : Bool) → bytes_eq x name ≡ b → Apart (x ∷ xs)
    → set (map f xs) (place_of xs name) v ≡ map (changed f name v) xs
    → set (f x ∷ map f xs) (cond b 0 (place_of xs name + 1)) v ≡ changed f name v x ∷ map (changed f name v) xs
written_by f name v x xs true e a h =
    let first : bytes_eq name x ≡ true = grind (arith, bytes_tells, e) in
    let rest : held xs name ≡ false = grind (arith, bytes_tells, e, a.0) in
    rw first (ap (λ l. v ∷ l) (sym (absent f name v xs rest)))
written_by f name v x xs false e a h =
    let first : bytes_eq name x ≡ false = grind (arith, bytes_tells, e) in
    rw (first, add-one) (ap (λ l. f x ∷ l) h)

-- a write at a name's place changes that name's number
written : (f : List ℕ → ℤ) (name : List ℕ) (v : ℤ) (xs : List (List ℕ)) → Apart xs → set (map f xs) (place_of xs name) v ≡ map (changed f name v) xs
written f name v [] a = refl
written f name v (x ∷ xs) a = written_by f name v x xs (bytes_eq x name) refl a (written f name v xs a.1)

abbrev pub shown : List (Bor leaf.Leaf) → List leaf.Leaf
shown ls = map (λ l. l.now) ls

-- the elements from a place on
pub from_place : (ls : List (Bor leaf.Leaf)) (k i : ℕ) (l : Bor leaf.Leaf) → i ≡ k + 1 → k < length ls → l ≡ get_or ls k l
    → drop k (shown ls) ≡ l.now ∷ drop i (shown ls)
from_place [] k i l e lt is = absurd (omega arith)
from_place (x ∷ ls) zero i l e lt is = rw e (ap (λ (y : Bor leaf.Leaf). y.now ∷ shown ls) (sym is))
from_place (x ∷ ls) (suc k) i l e lt is = rw (e, add-one) (from_place ls k (suc k) l (sym (add-one k)) (omega arith) is)

pub none_left : (ls : List (Bor leaf.Leaf)) (n : ℕ) → length ls ≤ n → drop n (shown ls) ≡ []
none_left ls n le = drop_all n (shown ls) (omega (arith, length-map ls (λ (l : Bor leaf.Leaf). l.now)))

-- with no element all start at 0
pub zeros : (cycle : ℕ) (xs : List (List ℕ)) → replicate (length xs) (pos 0) ≡ map (start_number cycle []) xs
zeros cycle [] = refl
zeros cycle (x ∷ xs) = ap (λ l. pos 0 ∷ l) (zeros cycle xs)

-- an element that is no TOF has no part in them
pub others_stay : (cycle : ℕ) (l : leaf.Leaf) (ls : List leaf.Leaf) (xs : List (List ℕ))
    → ((c : ℕ) (name : List ℕ) (other : ℤ) → start_by c l.kind name other ≡ other) → map (start_number cycle (l ∷ ls)) xs ≡ map (start_number cycle ls) xs
others_stay cycle l ls [] f = refl
others_stay cycle l ls (x ∷ xs) f = rw (f cycle x (start_number cycle ls x)) (ap (λ r. start_number cycle ls x ∷ r) (others_stay cycle l ls xs f))

-- a TOF's start value is written at its variable
pub tof_written : (cycle : ℕ) (l : leaf.Leaf) (ls : List leaf.Leaf) (name : List ℕ) (delay : ℕ) (xs : List (List ℕ)) → l.kind ≡ Timer Tof name delay → Apart xs
    → set (map (start_number cycle ls) xs) (place_of xs name) (pos (period cycle delay)) ≡ map (start_number cycle (l ∷ ls)) xs
tof_written cycle l ls name delay xs e a = written (start_number cycle ls) name (pos (period cycle delay)) xs a ∙ rw e refl

fit_one : (cycle : ℕ) (ls : List (Bor leaf.Leaf)) (k : ℕ) (l : Bor leaf.Leaf) → k < length ls → l ≡ get_or ls k l → all_fit cycle (shown ls) ≡ true
    → is_fit cycle l.now.kind ≡ true
fit_one cycle [] k l lt is fit = absurd (omega arith)
fit_one cycle (x ∷ ls) zero l lt is fit = ap (λ (y : Bor leaf.Leaf). is_fit cycle y.now.kind) is ∙ fit_first cycle x.now (shown ls) fit
fit_one cycle (x ∷ ls) (suc k) l lt is fit = fit_one cycle ls k l (omega arith) is (fit_back cycle (x.now ∷ []) (shown ls) fit)

pub tof_fits : (cycle : ℕ) (ls : List (Bor leaf.Leaf)) (k : ℕ) (l : Bor leaf.Leaf) (name : List ℕ) (delay : ℕ) → k < length ls → l ≡ get_or ls k l
    → all_fit cycle (shown ls) ≡ true → l.now.kind ≡ Timer Tof name delay → period cycle delay ≤ 32767
tof_fits cycle ls k l name delay lt is fit e =
    let one : nat_le (period cycle delay) 32767 ≡ true = rw e at (fit_one cycle ls k l lt is fit) in
    grind (arith, nat_tests, one)

named_one : (ls : List (Bor leaf.Leaf)) (k : ℕ) (l : Bor leaf.Leaf) (name : List ℕ) → k < length ls → l ≡ get_or ls k l
    → held (variable_names l.now.kind) name ≡ true → held (all_named variable_names (shown ls)) name ≡ true
named_one [] k l name lt is h = absurd (omega arith)
named_one (x ∷ ls) zero l name lt is h =
    held_front (variable_names x.now.kind) (all_named variable_names (shown ls)) name
    (ap (λ (y : Bor leaf.Leaf). held (variable_names y.now.kind) name) (sym is) ∙ h)
named_one (x ∷ ls) (suc k) l name lt is h =
    held_back (variable_names x.now.kind) (all_named variable_names (shown ls)) name (named_one ls k l name (omega arith) is h)

-- a TOF's variable is among the variables
pub tof_placed : (ls : List (Bor leaf.Leaf)) (k : ℕ) (l : Bor leaf.Leaf) (name : List ℕ) (delay : ℕ) → k < length ls → l ≡ get_or ls k l
    → l.now.kind ≡ Timer Tof name delay → place_of (firsts (all_named variable_names (shown ls))) name < length (firsts (all_named variable_names (shown ls)))
tof_placed ls k l name delay lt is e =
    let names = all_named variable_names (shown ls) in
    let itself : held (variable_names l.now.kind) name ≡ true = rw (e, bytes_same name) refl in
    place_below (firsts names) name ((firsts_seen names).new name (named_one ls k l name lt is itself))
