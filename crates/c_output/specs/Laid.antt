-- What the text of an element needs, as a layout of names has it.
use Rattle.ladder_lower.specs.declared.layout.Layout.{Layout}
use Rattle.c_output.specs.Element.{Terms}

abbrev pub terms_of : Layout → Terms
terms_of p = record { cycle = p.cycle; analog = p.analog; persistent = p.persistent }
