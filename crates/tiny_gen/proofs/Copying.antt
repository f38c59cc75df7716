-- The copier in the tiny machine's words.
use Rattle.std.proofs.Common.{◌≡◌, ℕ, zero, suc, List, [], ◌∷◌, Some, None, Bool, true, false, refl, sym, ap, subst, ◌∙◌, arith}
use Rattle.std.specs.Prelude.{slice_get, slice_index}
use Rattle.std.specs.List.{AllByRecursion}
use Rattle.chip_tables.specs.Bits.{bit_of}
use Rattle.chip_tables.specs.declared.outside.PinReading.{PinReading}
use Rattle.byte_code.specs.declared.prim.BitSource.TheVariants as source
use Rattle.byte_code.specs.declared.prim.BitDest.TheVariants as dest
use Rattle.byte_code.specs.declared.prim.BitOp.TheVariants as bits
use Rattle.byte_code.specs.declared.prim.BytePrim.TheVariants.{Start, CyclePoll, Label, Jump, Bit}
use Rattle.byte_code.specs.declared.prim.Paced.{Paced}
use Rattle.byte_code.specs.declared.prim.Shape.TheVariants.{AtPoll}
use Rattle.byte_code.specs.declared.state.Bytes.{Bytes}
use Rattle.byte_code.specs.Table.{shape_of}
use Rattle.byte_code.specs.Machine.{is_name}
use Rattle.byte_code.specs.Counts.{KeepsCounts}
use Rattle.byte_code.specs.Samples as samples
use Rattle.byte_code.specs.Samples.{paced, copier, AtPolls, IsCopied}
use Rattle.target_core.specs.Law.{label_named, is_start}
use Rattle.target_core.specs.Whole.{places_from, IsFresh, IsPlaced, IsWhole, RunsAs}
use Rattle.tiny_gen.specs.declared.state.TinyState.{TinyState}
use Rattle.tiny_gen.specs.Code.{admits, StandsAt, tiny_target}
use Rattle.tiny_gen.specs.Copier.{IsReset, Copies}

-- a fact at each place of the copier
abbrev AllAt : (ℕ → Paced → Type 0) → List Paced → Type 0
AllAt P [] = Unit {0}
AllAt P (x ∷ xs) = P 0 x × AllAt (λ i. P (suc i)) xs

all_at : (P : ℕ → Paced → Type 0) (xs : List Paced) → AllAt P xs → (i : ℕ) (x : Paced) → slice_get xs i ≡ Some x → P i x
all_at P [] a i x e = absurd (cc e)
all_at P (y ∷ xs) a zero x e = let f : y ≡ x = cc e in subst (P 0) f a.0
all_at P (y ∷ xs) a (suc i) x e = all_at (λ j. P (suc j)) xs a.1 i x e

-- its label stands in front of the poll
placed : (l : ℕ) → 0 ≡ l → IsPlaced copier l
placed l e = subst (IsPlaced copier) e (record {
  stands = (paced (Label 0) 1 1, refl, refl);
  once = all_at (λ k q. is_name (shape_of q.prim) 0 ≡ true → k ≡ 1) copier
      ((λ h. absurd (cc h)), ((λ h. refl), ((λ h. absurd (cc h)), ((λ h. absurd (cc h)), ((λ h. absurd (cc h)), tt)))));
  before = (2, paced (CyclePoll 0) 1 1, refl, refl, omega arith);
})

-- it is code that can be assembled
pub copier_is_whole : IsWhole tiny_target copier
copier_is_whole = record {
  first = (paced (Start 0) 1 0, refl, refl);
  others = all_at (λ i p. is_start p.prim ≡ false)
      (paced (Label 0) 1 1 ∷ paced (CyclePoll 0) 1 1 ∷ paced (Bit (bits.Copy (dest.Latch 1 1) (source.Level 1 0) false)) 0 1 ∷ paced (Jump 0) 0 1 ∷ [])
      (refl, (refl, (refl, (refl, tt))));
  admitted = all_at (λ i p. admits p.prim) copier (refl, (tt, (tt, (((omega arith, omega arith), (omega arith, omega arith), refl), (tt, tt)))));
  labels = λ i l p e. all_at (λ j q. (k : ℕ) → label_named q.prim ≡ Some k → IsPlaced copier k) copier
      ((λ k h. absurd (cc h)), ((λ k h. absurd (cc h)), ((λ k h. absurd (cc h)), ((λ k h. absurd (cc h)), ((λ k h. placed k (cc h)), tt))))) i p e l;
}

fresh_bytes : TinyState → Bytes
fresh_bytes m = record { place = 0; open_call = None; started = false; store = m.store }

-- a machine at reset stands for the byte state in front of the first step
reset_stands : (m : TinyState) → IsReset m → StandsAt (places_from tiny_target.words_in 0 copier) 0 m (fresh_bytes m)
unfolding fresh_bytes
reset_stands m r = record { shows = refl; at = omega (arith, r.at); link = λ k e. absurd (cc e) }

-- each reading may be given
any_reading : (readings : List PinReading) → AllByRecursion tiny_target.reads readings
any_reading [] = tt
any_reading (r ∷ readings) = (tt, any_reading readings)

-- its one poll
poll_place : (i : ℕ) (p : Paced) → slice_get copier i ≡ Some p → shape_of p.prim ≡ AtPoll → i ≡ 2
poll_place = all_at (λ i p. shape_of p.prim ≡ AtPoll → i ≡ 2) copier
    ((λ h. absurd (cc h)), ((λ h. absurd (cc h)), ((λ h. refl), ((λ h. absurd (cc h)), ((λ h. absurd (cc h)), tt)))))

-- what the assembler ensures of its words, and what it does on the byte machine
pub copies : ((s : Bytes) (readings : List PinReading) (answers : List Bool) → samples.IsFresh s → KeepsCounts copier s readings answers) →
    ((s : Bytes) (readings : List PinReading) (answers : List Bool) → samples.IsFresh s → AtPolls copier s readings answers (IsCopied readings)) →
    (words : List ℕ) (cycles boot : ℕ) → RunsAs tiny_target copier words cycles boot → Copies words cycles boot
unfolding fresh_bytes
copies counts copied words cycles boot runs rest m readings answers reset n c e =
    let s = fresh_bytes m in
    let sample : samples.IsFresh s = record {
      place = refl;
      open_call = refl;
      converting = reset.converting;
      scratch = reset.scratch;
      cells = reset.cells;
      latches = reset.latches;
    } in
    let fresh : IsFresh s = record { place = refl; started = refl; open_call = refl } in
    let h = runs rest m s readings answers fresh (any_reading readings) (reset_stands m reset) (counts s readings answers sample) n c e in
    let b = h.bytes.1 in
    let stands = h.bytes.3 in
    record {
      not_stuck = h.not_stuck;
      cost = h.cost;
      copied = λ asks k r taken read.
          let shown = stands.asks asks in
          let place = poll_place b.state.bytes.place shown.poll.0 shown.poll.1 shown.poll.2 in
          ap (λ d. bit_of (slice_index d.latches 1) 1) shown.shows
          ∙ copied s readings answers sample h.bytes.0 b h.bytes.2 place k r (sym stands.taken ∙ taken) read;
    }
