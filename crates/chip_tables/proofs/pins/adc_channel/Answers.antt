use Rattle.chip_tables.proofs.PinLemmas.{in_channels, alone_channel}
use Rattle.chip_tables.proofs.pins.adc_channel.Goals as goal

pub returns-clause-in_channels : goal.returns-clause-in_channels
returns-clause-in_channels c = in_channels c.args.target c.args.pin _ c.channel_of_pin.ensures

pub returns-clause-alone : goal.returns-clause-alone
returns-clause-alone c = alone_channel c.args.target c.args.pin _ c.channel_of_pin.ensures
