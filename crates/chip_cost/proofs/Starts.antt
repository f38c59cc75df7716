-- No more variables have a start value other than 0 than there are off-delay timers.
use Rattle.std.proofs.Common.{◌≡◌, ℕ, suc, ◌+◌, ◌≤◌, Bool, true, false, cond, List, [], ◌∷◌, ℤ, pos, map, refl, ap, arith}
use Rattle.std.proofs.lemmas.List.Sums.{sum_by-cons}
use Rattle.std.specs.Ordering.{int_eq}
use Rattle.std.specs.Str.{bytes_eq}
use Rattle.ladder_tree.specs.declared.element.Leaf as leaf
use Rattle.ladder_tree.specs.declared.element.LeafKind.{LeafKind}
use Rattle.ladder_tree.specs.declared.element.LeafKind.TheVariants.{Timer}
use Rattle.ladder_tree.specs.declared.element.TimerHow.TheVariants.{Ton, Tof, Rto}
use Rattle.ladder_meaning.specs.Cycle.{start_by, start_number}
use Rattle.ladder_meaning.specs.Numbers.{period}
use Rattle.ladder_rules.specs.Needs.{is_tof, tofs_in}
use Rattle.ladder_lower.specs.Apart.{Apart}
use Rattle.ladder_lower.proofs.PlaceLemmas.{bytes_tells}
use Rattle.ladder_lower.proofs.Stands.{held}
use Rattle.byte_lower.specs.Listed.{starts_in}

one_most : (n : ℤ) (ns : List ℤ) → starts_in (n ∷ ns) ≤ 1 + starts_in ns
one_most n ns = by (int_eq n (pos 0))
  where
    by : (b : Bool) → cond b (starts_in ns) (suc (starts_in ns)) ≤ 1 + starts_in ns
    by true = omega arith
    by false = omega arith

no_less : (n : ℤ) (ns : List ℤ) → starts_in ns ≤ starts_in (n ∷ ns)
no_less n ns = by (int_eq n (pos 0))
  where
    by : (b : Bool) → starts_in ns ≤ cond b (starts_in ns) (suc (starts_in ns))
    by true = omega arith
    by false = omega arith

behind_same : (n : ℤ) (ns ms : List ℤ) → starts_in ns ≤ 1 + starts_in ms → starts_in (n ∷ ns) ≤ 1 + starts_in (n ∷ ms)
behind_same n ns ms h = by (int_eq n (pos 0))
  where
    by : (b : Bool) → cond b (starts_in ns) (suc (starts_in ns)) ≤ 1 + cond b (starts_in ms) (suc (starts_in ms))
    by true = h
    by false = omega (arith, h)

-- other numbers stay, and the name's becomes the value
abbrev changed : (List ℕ → ℤ) → List ℕ → ℤ → List ℕ → ℤ
changed f name v n = cond (bytes_eq name n) v (f n)

absent : (f : List ℕ → ℤ) (name : List ℕ) (v : ℤ) (xs : List (List ℕ)) → held xs name ≡ false → map (changed f name v) xs ≡ map f xs
absent f name v [] e = refl
absent f name v (x ∷ xs) e =
    let first : bytes_eq name x ≡ false = grind (arith, bytes_tells, e) in
    let rest : held xs name ≡ false = grind (arith, bytes_tells, e) in
    rw first (ap (λ l. f x ∷ l) (absent f name v xs rest))

few_by : (f : List ℕ → ℤ) (name : List ℕ) (v : ℤ) (x : List ℕ) (xs : List (List ℕ)) (b : Bool) → bytes_eq name x ≡ b → Apart (x ∷ xs) →
    starts_in (map (changed f name v) xs) ≤ 1 + starts_in (map f xs) →
    starts_in (cond b v (f x) ∷ map (changed f name v) xs) ≤ 1 + starts_in (f x ∷ map f xs)
few_by f name v x xs true e a h =
    let rest : held xs name ≡ false = grind (arith, bytes_tells, e, a.0) in
    let same = ap starts_in (absent f name v xs rest) in
    let most = one_most v (map (changed f name v) xs) in
    let least = no_less (f x) (map f xs) in
    omega (arith, same, most, least)
few_by f name v x xs false e a h = behind_same (f x) (map (changed f name v) xs) (map f xs) h

-- a change at one name makes one more at most
few_changed : (f : List ℕ → ℤ) (name : List ℕ) (v : ℤ) (xs : List (List ℕ)) → Apart xs → starts_in (map (changed f name v) xs) ≤ 1 + starts_in (map f xs)
few_changed f name v [] a = omega arith
few_changed f name v (x ∷ xs) a = few_by f name v x xs (bytes_eq name x) refl a (few_changed f name v xs a.1)

none_start : (cycle : ℕ) (xs : List (List ℕ)) → starts_in (map (start_number cycle []) xs) ≡ 0
none_start cycle [] = refl
none_start cycle (x ∷ xs) = none_start cycle xs

-- with one element more
more : (cycle : ℕ) (k : LeafKind) (f : List ℕ → ℤ) (xs : List (List ℕ)) → Apart xs →
    starts_in (map (λ name. start_by cycle k name (f name)) xs) ≤ cond (is_tof k) 1 0 + starts_in (map f xs)
more cycle (Timer Tof name delay) f xs a = few_changed f name (pos (period cycle delay)) xs a
more cycle (Timer Ton name delay) f xs a = omega arith
more cycle (Timer Rto name delay) f xs a = omega arith
more cycle k f xs a = omega arith

pub starts_few : (cycle : ℕ) (ls : List leaf.Leaf) (xs : List (List ℕ)) → Apart xs → starts_in (map (start_number cycle ls) xs) ≤ tofs_in ls
starts_few cycle [] xs a = let e = none_start cycle xs in omega (arith, e)
starts_few cycle (l ∷ ls) xs a =
    let own = more cycle l.kind (start_number cycle ls) xs a in
    let rest = starts_few cycle ls xs a in
    let e = sum_by-cons (λ (x : leaf.Leaf). cond (is_tof x.kind) 1 0) l ls in
    omega (arith, own, rest, e)
