-- Nesting without a list of what is open: a count of open ifs, and for each if its own way to its fi.
use Rattle.std.specs.Prelude.{ℕ, zero, suc, Bool, true, false, not, ◌&&◌, List, [], ◌∷◌}
use Rattle.int_code.specs.Shapes.{shape_of}
use Rattle.int_code.specs.declared.op.IntOp.{IntOp}
use Rattle.int_code.specs.declared.op.Shape.{Shape}
use Rattle.int_code.specs.declared.op.Shape.TheVariants.{Opens, Turns, Closes, Plain}

abbrev pub closes_by : Shape → (ℕ → Bool → Bool) → ℕ → Bool → Bool
closes_by Opens rest depth had = rest (suc depth) had
closes_by Turns rest zero had = not had && rest zero true
closes_by Turns rest (suc depth) had = rest (suc depth) had
closes_by Closes rest zero had = true
closes_by Closes rest (suc depth) had = rest depth had
closes_by Plain rest depth had = rest depth had

-- From inside an if with so many others open inside it: it comes to its fi, with no second els of its own. The flag says whether it had its els.
abbrev pub closes : List IntOp → ℕ → Bool → Bool
closes [] depth had = false
closes (op ∷ ops) depth had = closes_by (shape_of op) (closes ops) depth had

abbrev pub closes_behind : Shape → List IntOp → Bool
closes_behind Opens ops = closes ops zero false
closes_behind Turns ops = true
closes_behind Closes ops = true
closes_behind Plain ops = true

-- each if closes
abbrev pub all_close : List IntOp → Bool
all_close [] = true
all_close (op ∷ ops) = closes_behind (shape_of op) ops && all_close ops

abbrev pub balances_by : Shape → (ℕ → Bool) → ℕ → Bool
balances_by Opens rest depth = rest (suc depth)
balances_by Turns rest zero = false
balances_by Turns rest (suc depth) = rest (suc depth)
balances_by Closes rest zero = false
balances_by Closes rest (suc depth) = rest depth
balances_by Plain rest depth = rest depth

-- each els and each fi has an open if, and none is open at the end
abbrev pub balances : List IntOp → ℕ → Bool
balances [] zero = true
balances [] (suc depth) = false
balances (op ∷ ops) depth = balances_by (shape_of op) (balances ops) depth
