-- The devices after a reset: ATmega16 data sheet, "Register Summary"; what the data sheet leaves open is 0 here.
use Rattle.std.specs.Prelude.{ℕ, List, false}
use Rattle.chip_tables.specs.Outside.{no_reading}
use Rattle.chip_tables.specs.declared.settings.Settings.{Settings}
use Rattle.avr_devices.specs.declared.devices.AvrDevices.{AvrDevices}
use Rattle.avr_devices.specs.declared.devices.AvrPort.{AvrPort}
use Rattle.avr_devices.specs.declared.devices.Conversion.TheVariants.{Idle}

abbrev pub input_port : AvrPort
input_port = record { latch = 0; direction = 0 }

abbrev pub reset_devices : List ℕ → Settings → AvrDevices
reset_devices eeprom settings =
    record {
      settings = settings;
      reading = no_reading;
      port_a = input_port;
      port_b = input_port;
      port_c = input_port;
      port_d = input_port;
      timer = record { control_a = 0; control_b = 0; compare = 0; held = 0; flag = false };
      serial = record { rate_low = 0; rate_high = 0; control = 0; status = 0 };
      converter = record { control = 0; input = 0; result = 0; conversion = Idle };
      eeprom = record { bytes = eeprom; address_low = 0; address_high = 0; data_byte = 0; control = 0; unlock = 0 };
      modulator = record { control = 0; duty = 0 };
    }
