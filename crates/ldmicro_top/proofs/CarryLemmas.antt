-- From each step's promise to the whole one: the text of a lowered project carries it.
use Rattle.std.proofs.Common.{◌≡◌, ℕ, zero, suc, ◌<◌, ◌≤◌, ℤ, pos, List, [], ◌∷◌, length, map, refl, ap, ◌∙◌, arith}
use Rattle.std.specs.Prelude.{slice_index_or}
use Rattle.texts.specs.Lines.{lines}
use Rattle.ladder_tree.specs.Leaves.{all_leaves}
use Rattle.ladder_tree.specs.declared.names.Names.{Names}
use Rattle.ladder_tree.specs.declared.project.Project.{Project}
use Rattle.ladder_tree.specs.Names.{names_of}
use Rattle.ladder_meaning.specs.declared.reading.Reading.{Reading}
use Rattle.ladder_meaning.specs.Cycle.{Ended, start, start_number}
use Rattle.int_code.specs.declared.op.IntOp.{IntOp}
use Rattle.int_code.specs.declared.op.IntProgram.{IntProgram}
use Rattle.int_code.specs.Meaning as int
use Rattle.int_code.specs.Store as store
use Rattle.int_code.specs.Store.{Store}
use Rattle.int_code.proofs.CountLemmas.{cycle_count}
use Rattle.ladder_lower.specs.Correct.{Shows, ShowsAll, KeepsHistory}
use Rattle.ladder_lower.specs.Outcome.{HasSizes}
use Rattle.interp_code.specs.Program.{IsProgram, read_as}
use Rattle.texts.specs.declared.limits.TheConstants.{CODE_BYTES}
use Rattle.ldmicro_top.specs.Carries.{EachEnds, CarriesInterp}

-- a cycle executes at most as many operations as there are
each_ends : (n : Names) (ops : List IntOp) (es : List Ended) (t : Store) (rs : List Reading) → ShowsAll n es (int.history ops t rs)
    → EachEnds n (length ops) es (int.history ops t rs)
each_ends n ops [] t [] h = tt
each_ends n ops (e ∷ es) t (r ∷ rs) h = (record { ends = h.0; few = cycle_count r ops t }, each_ends n ops es (int.cycle r ops t).store rs h.1)
each_ends n ops [] t (r ∷ rs) h = absurd h
each_ends n ops (e ∷ es) t [] h = absurd h

mapped_at : (f : List ℕ → ℤ) (xs : List (List ℕ)) (k : ℕ) → k < length xs → slice_index_or (map f xs) k (pos 0) ≡ f (slice_index_or xs k [])
mapped_at f [] k lt = absurd (omega arith)
mapped_at f (x ∷ xs) zero lt = refl
mapped_at f (x ∷ xs) (suc k) lt = mapped_at f xs k (omega arith)

-- variables start as the ladder's do, and all else is off
pub start_shown : (n : Names) (p : Project) (program : IntProgram) (eeprom : ℕ → ℕ) → HasSizes n p program
    → Shows n (start p eeprom) (store.start program.starts eeprom)
start_shown n p program eeprom sizes = record {
  outputs = λ k lt. refl;
  relays = λ k lt. refl;
  variables = λ k lt. ap (λ (ns : List ℤ). slice_index_or ns k (pos 0)) sizes.starts ∙ mapped_at (start_number p.cycle (all_leaves p.rungs)) n.variables k lt;
  memories = λ k lt. refl;
  loaded = λ k lt. refl;
  eeprom = refl;
  pending = refl;
  duty = refl;
}

pub carried : (p : Project) (program : IntProgram) (code : List ℕ) → IsProgram (lines code) (read_as p.cycle (names_of p.rungs) program)
    → length code ≤ CODE_BYTES → HasSizes (names_of p.rungs) p program → KeepsHistory (names_of p.rungs) p program.ops
    → CarriesInterp p code (length program.ops)
carried p program code read within sizes keeps = record {
  program = read_as p.cycle (names_of p.rungs) program;
  read = read;
  within = within;
  cycle = refl;
  inputs = refl;
  outputs = refl;
  analogs = refl;
  variables = refl;
  relays = refl;
  persistent = refl;
  operations = refl;
  each = λ eeprom rs.
      let begun = store.start program.starts eeprom in
      each_ends (names_of p.rungs) program.ops _ begun rs (keeps.each (start p eeprom) begun rs (start_shown (names_of p.rungs) p program eeprom sizes));
}
