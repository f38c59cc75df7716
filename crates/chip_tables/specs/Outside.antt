-- What a written machine meets.
use Rattle.std.specs.Prelude.{[], ◌∷◌, false, None}
use Rattle.chip_tables.specs.declared.outside.PinReading.{PinReading}

-- the reading that shows nothing: all levels and values are 0, no byte is there, and nothing is busy
abbrev pub no_reading : PinReading
no_reading =
    record {
      levels = 0 ∷ 0 ∷ 0 ∷ 0 ∷ 0 ∷ [];
      adc = 0 ∷ 0 ∷ 0 ∷ 0 ∷ 0 ∷ 0 ∷ 0 ∷ 0 ∷ [];
      rx = None;
      tx_busy = false;
      ee_busy = false;
    }
