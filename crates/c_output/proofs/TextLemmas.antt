-- Texts that grow piece by piece.
use Rattle.std.proofs.Common.{◌≡◌, ℕ, ℤ, pos, zero, suc, ◌+◌, ◌-◌, ◌<◌, ◌≤◌, max, List, [], ◌∷◌, ◌++◌, length, get_or, drop, refl, sym, ap, ◌∙◌, subst, arith, append_assoc, add-one, drop-cons}
use Rattle.std.proofs.Math.Nat.{le-max_left}
use Rattle.std.specs.Fmt.{decimal, signed_decimal}
use Rattle.std.specs.Prelude.{codes}
use Rattle.ladder_tree.specs.Leaves.{depth_of, depth_in, depth_of_all}
use Rattle.ladder_tree.specs.declared.project.Node.{Node}
use Rattle.ladder_tree.specs.declared.project.Rung.{Rung}
use Rattle.c_output.specs.Element.{moves_text, cases_text}
use Rattle.c_output.specs.Filled.{filled}
use Rattle.c_output.specs.Text.{variables_text}

pub front : {A : Type 0} (xs : List A) (i : ℕ) (x : A) → i < length xs → x ≡ get_or xs i x → drop i xs ≡ x ∷ drop (i + 1) xs
front xs i x lt is = rw add-one (drop-cons xs i x lt ∙ ap (λ y. y ∷ drop (suc i) xs) (sym is))

-- a piece more, of what is left
pub grown : (t u piece rest left : List ℕ) → left ≡ piece ++ rest → u ≡ t ++ piece → u ++ rest ≡ t ++ left
grown t u piece rest left e h = ap (λ x. x ++ rest) h ∙ append_assoc t piece rest ∙ ap (λ x. t ++ x) (sym e)

-- one more move of a shift register
pub moves_step : (name : List ℕ) (place : ℕ) → 1 < place
    → moves_text name place ≡ filled (codes " v_@# = v_@$;") name (decimal (place - 1)) (decimal (place - 1 - 1)) ++ moves_text name (place - 1)
moves_step name zero lt = absurd (omega arith)
moves_step name (suc zero) lt = absurd (omega arith)
moves_step name (suc (suc k)) lt =
    let one : suc (suc k) - 1 ≡ suc k = omega arith in
    let two : suc k - 1 ≡ k = omega arith in
    rw (one, two) refl

-- no node is deeper than the deepest
pub depth_at : (ns : List Node) (i : ℕ) (n : Node) → i < length ns → n ≡ get_or ns i n → depth_of n ≤ depth_in ns
depth_at [] i n lt is = absurd (omega arith)
depth_at (x ∷ xs) zero n lt is = subst (λ (y : Node). depth_of y ≤ depth_in (x ∷ xs)) (sym is) (le-max_left (depth_of x) (depth_in xs))
depth_at (x ∷ xs) (suc i) n lt is = let h = depth_at xs i n (omega arith) is in omega (arith, h)

pub rung_depth : (gs : List Rung) (i : ℕ) (g : Rung) → i < length gs → g ≡ get_or gs i g → depth_in g.nodes ≤ depth_of_all gs
rung_depth [] i g lt is = absurd (omega arith)
rung_depth (x ∷ xs) zero g lt is =
    subst (λ (y : Rung). depth_in y.nodes ≤ depth_of_all (x ∷ xs)) (sym is) (le-max_left (depth_in x.nodes) (depth_of_all xs))
rung_depth (x ∷ xs) (suc i) g lt is = let h = rung_depth xs i g (omega arith) is in omega (arith, h)

-- behind them there is nothing
pub moves_done : (name : List ℕ) (place : ℕ) → place ≤ 1 → moves_text name place ≡ []
moves_done name zero le = refl
moves_done name (suc zero) le = refl
moves_done name (suc (suc k)) le = absurd (omega arith)

-- the item at a place, and those behind it
pub item : {A : Type 0} (xs : List A) (i : ℕ) (d : A) → i < length xs → drop i xs ≡ get_or xs i d ∷ drop (i + 1) xs
item xs i d lt = rw add-one (drop-cons xs i d lt)

-- one more case of a table
pub cases_step : (dest : List ℕ) (values : List ℤ) (i : ℕ) → i < length values
    → cases_text dest i (drop i values)
    ≡ filled (codes " case #: v_@ = w16($L); break;") dest (decimal i) (signed_decimal (get_or values i (pos 0))) ++ cases_text dest (i + 1)
    (drop (i + 1) values)
cases_step dest values i lt = ap (cases_text dest i) (item values i (pos 0) lt)

-- one more variable
pub variables_step : (names : List (List ℕ)) (starts : List ℤ) (i : ℕ) (name : List ℕ) → length starts ≡ length names → i < length names
    → name ≡ get_or names i name
    → variables_text (drop i names) (drop i starts)
    ≡ filled (codes "static int v_@ = #;\n") name (signed_decimal (get_or starts i (pos 0))) [] ++ variables_text (drop (i + 1) names) (drop (i + 1) starts)
variables_step names starts i name long lt is =
    ap (λ ns. variables_text ns (drop i starts)) (front names i name lt is)
    ∙ ap (variables_text (name ∷ drop (i + 1) names)) (item starts i (pos 0) (omega (arith, long, lt)))
