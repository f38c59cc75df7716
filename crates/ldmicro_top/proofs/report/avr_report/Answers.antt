use Rattle.ldmicro_top.proofs.report.avr_report.Goals as goal

pub returns : goal.returns
returns c = rw (c.ram_need-ram.ensures, c.eeprom_need-eeprom.ensures, c.kept_of-kept.ensures.sizes) at c.format.ensures.ok
