-- The devices after a reset: PIC16F62X and PIC16F87X data sheets, "Reset"; what the data sheets leave open is 0 here, and so is PR2.
use Rattle.std.specs.Prelude.{ℕ, List, false}
use Rattle.chip_tables.specs.Outside.{no_reading}
use Rattle.chip_tables.specs.declared.settings.Settings.{Settings}
use Rattle.avr_devices.specs.declared.devices.Conversion.TheVariants.{Idle}
use Rattle.pic_devices.specs.declared.devices.PicDevices.{PicDevices}
use Rattle.pic_devices.specs.declared.devices.PicPort.{PicPort}
use Rattle.pic_devices.specs.declared.devices.Unlock.TheVariants.{Closed}

-- a port whose pins are inputs where there is a 1
abbrev pub input_port : ℕ → PicPort
input_port direction = record { latch = 0; direction = direction }

abbrev pub reset_devices : List ℕ → Settings → PicDevices
reset_devices eeprom settings =
    record {
      settings = settings;
      reading = no_reading;
      port_a = input_port 255;
      port_b = input_port 255;
      port_c = input_port 255;
      port_d = input_port 255;
      port_e = input_port 7;
      flags = 0;
      timer = record { count_low = 0; count_high = 0; control = 0; compare_low = 0; compare_high = 0; mode = 0; flag = false };
      serial = record { rate = 0; transmit = 0; receive = 0 };
      converter = record { control = 0; pins = 0; result = 0; conversion = Idle };
      comparator = 0;
      eeprom = record { bytes = eeprom; address = 0; data_byte = 0; control = 0; unlock = Closed };
      modulator = record { control = 0; period = 0; mode = 0; duty = 0 };
    }
