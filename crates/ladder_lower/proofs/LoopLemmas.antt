-- The steps of the loops over nodes, rungs and the places of a shift register.
use Rattle.std.proofs.Common.{◌≡◌, ◌≢◌, ℕ, zero, suc, ◌+◌, ◌-◌, take, ◌<◌, ◌≤◌, max, Bool, true, false, nat_eq, List, [], ◌∷◌, ◌++◌, length, get_or, drop, map}
use Rattle.std.proofs.Common.{refl, sym, ap, ◌∙◌, subst, arith, append_assoc, add-one, drop-cons}
use Rattle.std.proofs.Math.Nat.{le-max_left}
use Rattle.std.proofs.lemmas.Bool.Decides.{nat_tests}
use Rattle.ladder_tree.specs.Leaves.{leaves, leaves_in, all_leaves}
use Rattle.ladder_tree.specs.declared.project.Node.{Node}
use Rattle.ladder_tree.specs.declared.project.Rung.{Rung}
use Rattle.std.specs.Fmt.{decimal}
use Rattle.int_code.specs.declared.op.IntOp.TheVariants.{Mov}
use Rattle.int_code.specs.declared.op.IntOp.{IntOp}
use Rattle.ladder_lower.specs.ElementCode.{moves}
use Rattle.ladder_lower.specs.Fit.{all_fit}
use Rattle.ladder_lower.specs.Nesting.{nesting, nesting_in, nesting_of_parallel, nesting_of_all}
use Rattle.ladder_lower.specs.NodeCode.{Piece, rung_start, rungs_code, memories_of, ends, join, piece, nodes_piece, others_of, fork_code, parallel_of}
use Rattle.ladder_lower.specs.Wires.{Fits, variable_of}
use Rattle.ladder_lower.specs.declared.layout.Layout.{Layout}
use Rattle.ladder_lower.proofs.LeafLemmas.{fit_front, fit_back}
use Rattle.ladder_lower.proofs.NodeLemmas.{again, fork, keep}

at_front : (ns : List Node) (i : ℕ) (n : Node) → i < length ns → n ≡ get_or ns i n → drop i ns ≡ n ∷ drop (i + 1) ns
at_front ns i n lt is = rw add-one (drop-cons ns i n lt ∙ ap (λ x. x ∷ drop (suc i) ns) (sym is))

pub nesting_at : (ns : List Node) (i : ℕ) (n : Node) → i < length ns → n ≡ get_or ns i n → nesting n ≤ nesting_in ns
nesting_at [] i n lt is = absurd (omega arith)
nesting_at (x ∷ xs) zero n lt is = subst (λ (y : Node). nesting y ≤ nesting_in (x ∷ xs)) (sym is) (le-max_left (nesting x) (nesting_in xs))
nesting_at (x ∷ xs) (suc i) n lt is = let h = nesting_at xs i n (omega arith) is in omega (arith, h)

pub fit_at : (cycle : ℕ) (ns : List Node) (i : ℕ) (n : Node) → i < length ns → n ≡ get_or ns i n → all_fit cycle (leaves_in ns) ≡ true
    → all_fit cycle (leaves n) ≡ true
fit_at cycle [] i n lt is fit = absurd (omega arith)
fit_at cycle (x ∷ xs) zero n lt is fit = subst (λ (y : Node). all_fit cycle (leaves y) ≡ true) (sym is) (fit_front cycle (leaves x) (leaves_in xs) fit)
fit_at cycle (x ∷ xs) (suc i) n lt is fit = fit_at cycle xs i n (omega arith) is (fit_back cycle (leaves x) (leaves_in xs) fit)

pub fits_less : (p : Layout) (d e : ℕ) → e ≤ d → Fits p d → Fits p e
fits_less p d e le f = let b = f.bits in record { bits = omega arith; inputs = f.inputs; outputs = f.outputs; variables = f.variables; analog = f.analog }

pub series_step : (p : Layout) (ns : List Node) (i : ℕ) (n : Node) (d k : ℕ) (ops all : List IntOp)
    → i < length ns → n ≡ get_or ns i n → ops ++ (nodes_piece p (drop i ns)).code d k ≡ all
    → (ops ++ (piece p n).code d k) ++ (nodes_piece p (drop (i + 1) ns)).code d (k + (piece p n).memories) ≡ all
series_step p ns i n d k ops all lt is h = append_assoc ops _ _ ∙ rw (at_front ns i n lt is) at h

pub series_count : (p : Layout) (ns : List Node) (i : ℕ) (n : Node) (k all : ℕ) → i < length ns → n ≡ get_or ns i n
    → k + (nodes_piece p (drop i ns)).memories ≡ all → k + (piece p n).memories + (nodes_piece p (drop (i + 1) ns)).memories ≡ all
series_count p ns i n k all lt is h = let e = rw (at_front ns i n lt is) at h in omega (arith, e)

same_test : (a b : ℕ) → nat_eq (suc a) (suc b) ≡ nat_eq a b
same_test a b = grind (arith, nat_tests)

last_by : (p : Layout) (ns : List Node) (i : ℕ) → i < length ns → nat_eq (suc i) (length ns) ≡ ends (map (piece p) (drop (suc i) ns))
last_by p [] i lt = absurd (omega arith)
last_by p (n ∷ []) zero lt = grind (arith, nat_tests)
last_by p (n ∷ o ∷ ns) zero lt = grind (arith, nat_tests)
last_by p (n ∷ ns) (suc i) lt = same_test (suc i) (length ns) ∙ last_by p ns i (omega arith)

-- whether a place is the last
pub last_at : (p : Layout) (ns : List Node) (i : ℕ) → i < length ns → nat_eq (i + 1) (length ns) ≡ ends (map (piece p) (drop (i + 1) ns))
last_at p ns i lt = rw add-one (last_by p ns i lt)

-- the branches behind the first, as a pattern gives them
abbrev pub behind : List Node → List Node
behind ns = take (length ns - 1) (drop 1 ns)

all_taken : (ns : List Node) → take (length ns) ns ≡ ns
all_taken [] = refl
all_taken (n ∷ ns) = ap (λ l. n ∷ l) (all_taken ns)

taken_by : (ns : List Node) (k : ℕ) → k ≡ length ns → take k ns ≡ ns
taken_by ns k e = rw e (all_taken ns)

behind_is : (ns : List Node) → behind ns ≡ drop 1 ns
behind_is [] = refl
behind_is (n ∷ ns) = taken_by ns (length (n ∷ ns) - 1) (omega arith)

pub front_of : (ns : List Node) (n : Node) → 1 ≤ length ns → n ≡ get_or ns 0 n → ns ≡ n ∷ behind ns
front_of [] n le is = absurd (omega arith)
front_of (x ∷ ns) n le is = ap (λ l. x ∷ l) (sym (taken_by ns (length (x ∷ ns) - 1) (omega arith))) ∙ ap (λ y. y ∷ behind (x ∷ ns)) (sym is)

pub not_empty : (ns : List Node) (b : Bool) → b ≡ nat_eq (length ns) 0 → b ≡ false → ns ≢ []
not_empty [] b e f = absurd (grind (arith, nat_tests, e, f))
not_empty (n ∷ ns) b e f = λ q. cc

fork_by : (p : Layout) (n : Node) (os : List Node) → os ≢ [] → parallel_of p (n ∷ os) ≡ fork_code p (piece p n) (others_of p os)
fork_by p n [] ne = absurd (ne refl)
fork_by p n (o ∷ os) ne = refl

pub forks : (p : Layout) (ns : List Node) (n : Node) → 1 ≤ length ns → n ≡ get_or ns 0 n → behind ns ≢ []
    → parallel_of p ns ≡ fork_code p (piece p n) (others_of p (drop 1 ns))
forks p ns n le is ne = ap (parallel_of p) (front_of ns n le is) ∙ fork_by p n (behind ns) ne ∙ ap (λ l. fork_code p (piece p n) (others_of p l)) (behind_is ns)

deep_by : (n : Node) (os : List Node) → os ≢ [] → nesting_of_parallel (n ∷ os) ≡ max (nesting n) (nesting_in os) + 1
deep_by n [] ne = absurd (ne refl)
deep_by n (o ∷ os) ne = refl

pub forks_deep : (ns : List Node) (n : Node) → 1 ≤ length ns → n ≡ get_or ns 0 n → behind ns ≢ [] → nesting_of_parallel ns ≡ nesting_in ns + 1
forks_deep ns n le is ne = ap nesting_of_parallel (front_of ns n le is) ∙ deep_by n (behind ns) ne ∙ ap (λ l. nesting_in l + 1) (sym (front_of ns n le is))

pub fork_step : (p : Layout) (a b : Piece) (d m k : ℕ) (ops pushed : List IntOp) → k ≡ m + a.memories
    → pushed ≡ ((ops ++ fork p d ∷ []) ++ a.code (d + 1) m) ++ keep p d ∷ [] → pushed ++ b.code d k ≡ ops ++ (fork_code p a b).code d m
fork_step p a b d m k ops pushed e h = rw (e, h) (simp append_assoc)

pub others_step : (p : Layout) (ns : List Node) (i : ℕ) (n : Node) (d k : ℕ) (ops all : List IntOp) (b : Bool) → b ≡ ends (map (piece p) (drop (i + 1) ns))
    → i < length ns → n ≡ get_or ns i n → ops ++ (others_of p (drop i ns)).code d k ≡ all
    → (((ops ++ again p d ∷ []) ++ (piece p n).code (d + 1) k) ++ join b p d) ++ (others_of p (drop (i + 1) ns)).code d (k + (piece p n).memories) ≡ all
others_step p ns i n d k ops all b last lt is h = rw last (simp append_assoc (rw (at_front ns i n lt is) at h))

pub others_count : (p : Layout) (ns : List Node) (i : ℕ) (n : Node) (k all : ℕ) → i < length ns → n ≡ get_or ns i n
    → k + (others_of p (drop i ns)).memories ≡ all → k + (piece p n).memories + (others_of p (drop (i + 1) ns)).memories ≡ all
others_count p ns i n k all lt is h = let e = rw (at_front ns i n lt is) at h in omega (arith, e)

rung_front : (gs : List Rung) (i : ℕ) (g : Rung) → i < length gs → g ≡ get_or gs i g → drop i gs ≡ g ∷ drop (i + 1) gs
rung_front gs i g lt is = rw add-one (drop-cons gs i g lt ∙ ap (λ x. x ∷ drop (suc i) gs) (sym is))

pub rung_nesting : (gs : List Rung) (i : ℕ) (g : Rung) → i < length gs → g ≡ get_or gs i g → nesting_in g.nodes ≤ nesting_of_all gs
rung_nesting [] i g lt is = absurd (omega arith)
rung_nesting (x ∷ xs) zero g lt is =
    subst (λ (y : Rung). nesting_in y.nodes ≤ nesting_of_all (x ∷ xs)) (sym is) (le-max_left (nesting_in x.nodes) (nesting_of_all xs))
rung_nesting (x ∷ xs) (suc i) g lt is = let h = rung_nesting xs i g (omega arith) is in omega (arith, h)

pub rung_fit : (cycle : ℕ) (gs : List Rung) (i : ℕ) (g : Rung) → i < length gs → g ≡ get_or gs i g → all_fit cycle (all_leaves gs) ≡ true
    → all_fit cycle (leaves_in g.nodes) ≡ true
rung_fit cycle [] i g lt is fit = absurd (omega arith)
rung_fit cycle (x ∷ xs) zero g lt is fit =
    subst (λ (y : Rung). all_fit cycle (leaves_in y.nodes) ≡ true) (sym is) (fit_front cycle (leaves_in x.nodes) (all_leaves xs) fit)
rung_fit cycle (x ∷ xs) (suc i) g lt is fit = rung_fit cycle xs i g (omega arith) is (fit_back cycle (leaves_in x.nodes) (all_leaves xs) fit)

pub rungs_step : (p : Layout) (gs : List Rung) (i : ℕ) (g : Rung) (k : ℕ) (ops all : List IntOp) → i < length gs → g ≡ get_or gs i g
    → ops ++ rungs_code p (drop i gs) k ≡ all
    → ((ops ++ rung_start p ∷ []) ++ (nodes_piece p g.nodes).code 0 k) ++ rungs_code p (drop (i + 1) gs) (k + (nodes_piece p g.nodes).memories) ≡ all
rungs_step p gs i g k ops all lt is h = simp append_assoc (rw (rung_front gs i g lt is) at h)

pub rungs_count : (p : Layout) (gs : List Rung) (i : ℕ) (g : Rung) (k all : ℕ) → i < length gs → g ≡ get_or gs i g → k + memories_of p (drop i gs) ≡ all
    → k + (nodes_piece p g.nodes).memories + memories_of p (drop (i + 1) gs) ≡ all
rungs_count p gs i g k all lt is h = let e = rw (rung_front gs i g lt is) at h in omega (arith, e)

-- one more move of a shift register
pub moves_step : (p : Layout) (name : List ℕ) (place : ℕ) (ops all : List IntOp) → 1 < place → ops ++ moves p name place ≡ all
    → (ops ++ Mov (variable_of p (name ++ decimal (place - 1))) (variable_of p (name ++ decimal (place - 1 - 1))) ∷ []) ++ moves p name (place - 1) ≡ all
moves_step p name zero ops all lt h = absurd (omega arith)
moves_step p name (suc zero) ops all lt h = absurd (omega arith)
moves_step p name (suc (suc k)) ops all lt h =
    let one : suc (suc k) - 1 ≡ suc k = omega arith in
    let two : suc k - 1 ≡ k = omega arith in
    rw (one, two) (append_assoc ops _ _ ∙ h)
