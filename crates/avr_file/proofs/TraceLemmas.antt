-- The readings and the EEPROM of a trace are a chip's.
use Rattle.std.proofs.Common.{◌≡◌, ℕ, zero, suc, ◌+◌, ◌<◌, ◌≤◌, List, [], ◌∷◌, ◌++◌, length, replicate, refl, sym, ap, ◌∙◌, arith}
use Rattle.std.specs.Prelude.{All, IfSome, slice_index}
use Rattle.std.specs.List.{sum_by}
use Rattle.std.proofs.lemmas.List.Sums.{sum_by-cons}
use Rattle.std.proofs.lemmas.List.{length-append, length-replicate}
use Rattle.std.proofs.lemmas.List.Elements.{All-nil, All-append, All-replicate, All-head, All-tail}
use Rattle.chip_tables.specs.declared.mega16.TheConstants.{EEPROM_BYTES}
use Rattle.ladder_tree.specs.declared.names.Names.{Names}
use Rattle.ladder_meaning.specs.declared.reading.Reading.{Reading}
use Rattle.ladder_trace.specs.Line.{most_cycles}
use Rattle.ladder_trace.specs.Simulated.{readings}
use Rattle.ladder_trace.specs.Token.{IsReadingOf, IsMeasuredReading}
use Rattle.ladder_trace.specs.Trace.{IsTraceOf}
use Rattle.ladder_trace.specs.declared.trace.Step.{Step}
use Rattle.ladder_trace.specs.declared.trace.Trace.{Trace}
use Rattle.mem_plan.specs.Seen.{IsForChip}
use Rattle.avr_chip.specs.Machine.{AreBytes}

all_readings : (P : Reading → Type 0) (steps : List Step) → All (λ s. P s.reading) steps → All P (readings steps)
all_readings P [] h = All-nil P
all_readings P (s ∷ ss) h =
    All-append P (replicate s.times s.reading) (readings ss)
    (All-replicate P s.times s.reading (All-head (λ (s : Step). P s.reading) s ss h)) (all_readings P ss (All-tail (λ (s : Step). P s.reading) s ss h))

pub for_chip : (n : Names) (r : Reading) → IsReadingOf n r → IsMeasuredReading r → IsForChip n r
for_chip n r h m = record {
  inputs = h.inputs;
  analog = h.analog;
  converted = λ k d lt. record { least = (m.analog k d lt).least; most = (m.analog k d lt).most };
}

pub trace_readings : (n : Names) (t : Trace) → IsTraceOf n t → All (IsForChip n) (readings t.steps)
trace_readings n t h = all_readings (IsForChip n) t.steps (λ k s lt. for_chip n _ (h.readings k s lt) (h.measured k s lt))

pub trace_received : (n : Names) (t : Trace) → IsTraceOf n t → All (λ (r : Reading). IfSome r.rx (λ byte. byte < 256)) (readings t.steps)
trace_received n t h = all_readings (λ (r : Reading). IfSome r.rx (λ byte. byte < 256)) t.steps (λ k s lt. (h.measured k s lt).received)

-- behind a list there is 0
byte_at : (bytes : List ℕ) → All (λ b. b < 256) bytes → (a : ℕ) → slice_index bytes a < 256
byte_at [] h a = omega arith
byte_at (b ∷ bs) h zero = All-head (λ b. b < 256) b bs h
byte_at (b ∷ bs) h (suc a) = byte_at bs (All-tail (λ b. b < 256) b bs h) a

pub trace_bytes : (n : Names) (t : Trace) → IsTraceOf n t → AreBytes t.eeprom EEPROM_BYTES
trace_bytes n t h = record { all = h.eeprom; each = byte_at t.eeprom h.bytes }

length_readings : (steps : List Step) → length (readings steps) ≡ sum_by (λ s. s.times) steps
length_readings [] = refl
length_readings (s ∷ ss) =
    length-append (replicate s.times s.reading) (readings ss)
    ∙ ap (λ k. k + length (readings ss)) (length-replicate s.times s.reading)
    ∙ ap (λ k. s.times + k) (length_readings ss)
    ∙ sym (sum_by-cons (λ s. s.times) s ss)

pub few_readings : (n : Names) (t : Trace) → IsTraceOf n t → length (readings t.steps) ≤ most_cycles
few_readings n t h = let count = length_readings t.steps in let few = h.cycles in omega arith
