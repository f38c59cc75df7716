-- The machine after a reset: PIC16F87X Data Sheet, "Reset"; W and the RAM are as they were, and what the data sheet leaves open is 0.
use Rattle.std.specs.Prelude.{ℕ, List, [], ◌∷◌, false}
use Rattle.chip_tables.specs.declared.settings.Settings.{Settings}
use Rattle.pic_devices.specs.declared.part.PicPart.{PicPart}
use Rattle.pic_devices.specs.Reset.{reset_devices}
use Rattle.pic16_mach.specs.declared.state.PicState.{PicState}

abbrev pub reset_state : PicPart → List ℕ → ℕ → List ℕ → Settings → PicState
reset_state part ram w eeprom settings =
    record {
      part = part;
      place = 0;
      w = w;
      ram = ram;
      carry = false;
      digit_carry = false;
      zero = false;
      rp0 = false;
      rp1 = false;
      irp = false;
      fsr = 0;
      pclath = 0;
      stack = 0 ∷ 0 ∷ 0 ∷ 0 ∷ 0 ∷ 0 ∷ 0 ∷ 0 ∷ [];
      depth = 0;
      devices = reset_devices eeprom settings;
    }
