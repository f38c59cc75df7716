use Rattle.std.proofs.Common.{◌≡◌, ◌≢◌, ℕ, zero, suc, refl}
use Rattle.avr_code.specs.Code.{Board, start_code, size_in}
use Rattle.avr_counts.proofs.counts.start_words.Goals as goal

with_cells : (n : ℕ) → n ≢ 0 → (board : Board) → size_in (start_code board n) ≡ 35
with_cells zero some board = absurd (some refl)
with_cells (suc k) some board = refl

pub returns-else-cells-eq0-clause-value : goal.returns-else-cells-eq0-clause-value
returns-else-cells-eq0-clause-value c = with_cells c.args.cells c.if-cells-eq0.false
