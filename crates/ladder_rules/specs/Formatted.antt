-- The field of a formatted string's text: where a variable's number is sent.
use Rattle.std.specs.Prelude.{ℕ, ◌+◌, ◌-◌, ◌==◌, ◌&&◌, nat_le, nat_lt, Bool, if◌then◌else◌, List, length, Option, Some, None, position, slice_index_or}
use Rattle.ladder_rules.specs.declared.formatted.Field.{Field}

abbrev pub field : ℕ → ℕ → Field
field taken given = record { taken = taken; given = given }

-- a digit of 1 to 5
abbrev pub is_places : ℕ → Bool
is_places c = nat_le 49 c && nat_le c 53

-- A digit behind the mark is the number of places. A minus (45) in front of the digit adds a place for the sign.
abbrev pub field_by : ℕ → ℕ → Field
field_by a b = if is_places a then field 2 (a - 48) else if a == 45 && is_places b then field 3 (b - 47) else field 0 0

abbrev pub field_at : List ℕ → Option ℕ → Field
field_at text None = field 0 0
field_at text (Some i) = field_by (slice_index_or text (i + 1) 0) (slice_index_or text (i + 2) 0)

-- the field begins with the first backslash (92)
abbrev pub mark_in : List ℕ → Option ℕ
mark_in text = position (λ c. c == 92) text

abbrev pub field_of : List ℕ → Field
field_of text = field_at text (mark_in text)

abbrev pub has_field : List ℕ → Bool
has_field text = nat_lt 0 (field_of text).given

-- how many bytes are sent for a text
abbrev pub sent_length : List ℕ → ℕ
sent_length text = length text + (field_of text).given - (field_of text).taken
