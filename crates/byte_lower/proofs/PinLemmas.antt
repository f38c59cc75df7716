-- The pins of a project's names.
use Rattle.std.proofs.Common.{◌≡◌, ℕ, zero, suc, ◌+◌, ◌<◌, List, [], ◌∷◌, ◌++◌, length, map, take, Option, Some, refl, sym, ap, subst, ◌∙◌, arith, add-one}
use Rattle.std.specs.Prelude.{All, slice_get, slice_index_or}
use Rattle.std.proofs.lemmas.List.Elements.{All-get_or}
use Rattle.chip_tables.specs.declared.pins.PortBit.{PortBit}
use Rattle.ladder_rules.specs.Assigned.{name_bit, HavePins}
use Rattle.ladder_tree.specs.declared.names.Names.{Names}
use Rattle.ladder_tree.specs.declared.project.Project.{Project}
use Rattle.byte_lower.specs.Layout.{HasPins}
use Rattle.byte_lower.specs.declared.layout.Layout.{Layout}

abbrev zero_pin : PortBit
zero_pin = record { port = 0; bit = 0 }

-- one name more
pub one_more : (f : List ℕ → Option PortBit) (pins : List PortBit) (names : List (List ℕ)) (k : ℕ) (name : List ℕ) (b : PortBit) →
    slice_get names k ≡ Some name →
    map Some pins ≡ map f (take k names) → f name ≡ Some b → map Some (pins ++ b ∷ []) ≡ map f (take (k + 1) names)
one_more f pins names k name b at e g = subst (λ n. map Some (pins ++ b ∷ []) ≡ map f (take n names)) (sym (add-one k)) (more pins names k at e)
  where
    more : (ps : List PortBit) (xs : List (List ℕ)) (n : ℕ) → slice_get xs n ≡ Some name → map Some ps ≡ map f (take n xs) → map Some (ps ++ b ∷ []) ≡ map f
        (take (suc n) xs)
    more ps [] n h i = absurd (cc)
    more [] (x ∷ xs) zero h i = let same : x ≡ name = cc in ap (λ y. y ∷ []) (sym (ap f same ∙ g))
    more (p ∷ ps) (x ∷ xs) zero h i = absurd (cc)
    more [] (x ∷ xs) (suc n) h i = absurd (cc)
    more (p ∷ ps) (x ∷ xs) (suc n) h i =
        let first : Some p ≡ f x = cc in
        let rest : map Some ps ≡ map f (take n xs) = cc in
        ap (λ y. y ∷ map Some (ps ++ b ∷ [])) first ∙ ap (λ ys. f x ∷ ys) (more ps xs n h rest)

-- a pin is that of its name
pub there : (f : List ℕ → Option PortBit) (pins : List PortBit) (names : List (List ℕ)) (k : ℕ) → map Some pins ≡ map f names → k < length pins →
    f (slice_index_or names k []) ≡ Some (slice_index_or pins k zero_pin)
there f [] names k e h = absurd (omega (arith, h))
there f (p ∷ pins) [] k e h = absurd (cc)
there f (p ∷ pins) (x ∷ names) zero e h = cc
there f (p ∷ pins) (x ∷ names) (suc k) e h = let rest : map Some pins ≡ map f names = cc in there f pins names k rest (omega (arith, h))

pub as_many : (f : List ℕ → Option PortBit) (pins : List PortBit) (names : List (List ℕ)) → map Some pins ≡ map f names → length pins ≡ length names
as_many f [] [] e = refl
as_many f [] (x ∷ names) e = absurd (cc)
as_many f (p ∷ pins) [] e = absurd (cc)
as_many f (p ∷ pins) (x ∷ names) e = let rest : map Some pins ≡ map f names = cc in ap suc (as_many f pins names rest)

pub has_pins : (p : Project) (n : Names) (o : Layout) → HavePins p n → map Some o.inputs ≡ map (name_bit p) n.inputs → map Some o.outputs ≡ map (name_bit p)
    n.outputs →
    All (λ b. (b.port < 5) × (b.bit < 8)) o.inputs → All (λ b. (b.port < 5) × (b.bit < 8)) o.outputs → HasPins o
has_pins p n o pins ins outs in_ports out_ports = record {
  inputs = λ k h. All-get_or (λ b. (b.port < 5) × (b.bit < 8)) o.inputs k zero_pin h in_ports;
  outputs = λ k h. All-get_or (λ b. (b.port < 5) × (b.bit < 8)) o.outputs k zero_pin h out_ports;
  apart = λ j k h g e. pins.outputs.apart j k (subst (λ m. j < m) (as_many (name_bit p) o.outputs n.outputs outs) h)
      (subst (λ m. k < m) (as_many (name_bit p) o.outputs n.outputs outs) g)
      (there (name_bit p) o.outputs n.outputs j outs h ∙ ap Some e ∙ sym (there (name_bit p) o.outputs n.outputs k outs g));
}
