-- What was read of a file, which may be cut behind its limit, answers for the whole file.
use Rattle.std.proofs.Common.{◌≡◌, ℕ, ◌+◌, ◌≤◌, Bool, List, [], length, take, nat_lt, Some, ap, ◌∙◌, subst, arith, le_refl}
use Rattle.std.proofs.lemmas.Bool.Decides.{nat_tests}
use Rattle.std.proofs.lemmas.List.{take_all, take-take, length-take}
use Rattle.ld_base.specs.Bytes.{Held}
use Rattle.texts.specs.Lines.{lines}
use Rattle.texts.specs.Limits as limits
use Rattle.texts.specs.declared.limits.TheConstants.{FILE_BYTES, CODE_BYTES}
use Rattle.ladder_tree.specs.declared.names.Names.{Names}
use Rattle.ladder_trace.specs.Trace as trace
use Rattle.chip_tables.specs.declared.target.Target.{Target}
use Rattle.intel_hex.specs.Verdict as hex
use Rattle.intel_hex.specs.Verdict.{sayings, hex_verdict}
use Rattle.interp_code.specs.Refused as interp
use Rattle.interp_code.specs.declared.program.InterpProgram.{InterpProgram}
use Rattle.ldmicro_top.specs.Code.{IsCode, IsCodeRefusedAt}

-- what a name holds, up to the first byte past the limit
abbrev pub Found : ℕ → Held → List ℕ → List ℕ → Type 0
Found limit held name part = (text : List ℕ) × (held name ≡ Some text) × (part ≡ take (limit + 1) text)

cut_again : (k : ℕ) (text : List ℕ) → take k (take k text) ≡ take k text
cut_again k text = take-take k k text (le_refl k)

-- what is cut is still over the limit
over_still : (limit : ℕ) (text : List ℕ) → nat_lt limit (length (take (limit + 1) text)) ≡ nat_lt limit (length text)
over_still limit text = rw (length-take (limit + 1) text) (grind (arith, nat_tests))

-- what is within the limit was not cut
uncut : (limit : ℕ) (text : List ℕ) → length (take (limit + 1) text) ≤ limit → take (limit + 1) text ≡ text
uncut limit text within = take_all (limit + 1) text (omega (arith, length-take (limit + 1) text))

pub verdict_whole : (n : Names) (text : List ℕ) → trace.verdict n (limits.judged FILE_BYTES text) ≡ trace.verdict n text
verdict_whole n text =
    ap (λ (x : List ℕ). trace.verdict_by (nat_lt FILE_BYTES (length (limits.judged FILE_BYTES text))) (length (lines x)) (trace.read n (lines x)))
    (cut_again (FILE_BYTES + 1) text)
    ∙ ap (λ (over : Bool). trace.verdict_by over (length (lines (limits.judged FILE_BYTES text))) (trace.read n (lines (limits.judged FILE_BYTES text))))
    (over_still FILE_BYTES text)

pub hex_whole : (t : Target) (text : List ℕ) → hex_verdict t (limits.judged FILE_BYTES text) ≡ hex_verdict t text
hex_whole t text =
    ap (λ (x : List ℕ). hex.verdict t [] (sayings (nat_lt FILE_BYTES (length (limits.judged FILE_BYTES text))) (lines x))) (cut_again (FILE_BYTES + 1) text)
    ∙ ap (λ (over : Bool). hex.verdict t [] (sayings over (lines (limits.judged FILE_BYTES text)))) (over_still FILE_BYTES text)

pub code_whole : (text : List ℕ) (program : InterpProgram) → IsCode (limits.judged CODE_BYTES text) program → IsCode text program
code_whole text program h = subst (λ (x : List ℕ). IsCode x program) (uncut CODE_BYTES text h.1) h

pub code_refused_whole : (text : List ℕ) (line : ℕ) → IsCodeRefusedAt (limits.judged CODE_BYTES text) line → IsCodeRefusedAt text line
code_refused_whole text line h =
    let over = nat_lt CODE_BYTES (length (limits.judged CODE_BYTES text)) in
    let cut = subst (λ (x : List ℕ). interp.IsRefusedAt over (lines x) line) (cut_again (CODE_BYTES + 1) text) h in
    subst (λ (over : Bool). interp.IsRefusedAt over (lines (limits.judged CODE_BYTES text)) line) (over_still CODE_BYTES text) cut
