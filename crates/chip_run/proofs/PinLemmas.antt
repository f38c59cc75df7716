-- The readings of a trace at the pins, step by step.
use Rattle.std.proofs.Common.{◌≡◌, ℕ, zero, suc, ◌+◌, ◌<◌, List, [], ◌∷◌, ◌++◌, map, take, length, get_or, replicate, refl, sym, ap}
use Rattle.std.proofs.Common.{◌∙◌, append_assoc, append-nil}
use Rattle.std.proofs.lemmas.List.{take_more, map-append}
use Rattle.std.proofs.lemmas.List.Elements.{All-append, All-replicate}
use Rattle.chip_tables.specs.declared.outside.PinReading.{PinReading}
use Rattle.ladder_tree.specs.declared.names.Names.{Names}
use Rattle.ladder_tree.specs.declared.project.Project.{Project}
use Rattle.ladder_trace.specs.Simulated.{readings}
use Rattle.ladder_trace.specs.declared.trace.Step.{Step}
use Rattle.mem_plan.specs.Seen.{pins_seen}
use Rattle.chip_run.specs.AtPins.{ArePinsOf, IsPlain}

map-replicate : {X Y : Type 0} (f : X → Y) (n : ℕ) (x : X) → map f (replicate n x) ≡ replicate n (f x)
map-replicate f zero x = refl
map-replicate f (suc n) x = ap (λ ys. f x ∷ ys) (map-replicate f n x)

readings_append : (xs ys : List Step) → readings (xs ++ ys) ≡ readings xs ++ readings ys
readings_append [] ys = refl
readings_append (x ∷ xs) ys =
    ap (λ rs. replicate x.times x.reading ++ rs) (readings_append xs ys) ∙ sym (append_assoc (replicate x.times x.reading) (readings xs) (readings ys))

-- the readings of one more step
readings_more : (steps : List Step) (k : ℕ) (s : Step) → k < length steps → s ≡ get_or steps k s
    → readings (take (k + 1) steps) ≡ readings (take k steps) ++ replicate s.times s.reading
readings_more steps k s lt is =
    ap readings (rw (← is) at (take_more steps k s lt)) ∙ readings_append (take k steps) (s ∷ [])
    ∙ ap (λ rs. readings (take k steps) ++ rs) (append-nil (replicate s.times s.reading))

-- the pins of one more step
pub pins_more : (p : Project) (n : Names) (steps : List Step) (k : ℕ) (s : Step) (r : PinReading) (pins more : List PinReading)
    → k < length steps → s ≡ get_or steps k s → pins_seen p n r ≡ s.reading → IsPlain p n r → more ≡ pins ++ replicate s.times r
    → ArePinsOf p n (readings (take k steps)) pins → ArePinsOf p n (readings (take (k + 1) steps)) more
pins_more p n steps k s r pins more lt is sees plain more_is are = rw more_is
    record {
      seen =
          map-append (pins_seen p n) pins (replicate s.times r)
          ∙ ap (λ xs. xs ++ map (pins_seen p n) (replicate s.times r)) are.seen
          ∙ ap (λ ys. readings (take k steps) ++ ys) (map-replicate (pins_seen p n) s.times r ∙ ap (λ y. replicate s.times y) sees)
          ∙ sym (readings_more steps k s lt is);
      plain = All-append (IsPlain p n) pins (replicate s.times r) are.plain (All-replicate (IsPlain p n) s.times r plain);
    }
