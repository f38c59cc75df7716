use Rattle.avr_emit.proofs.chip.Avr.setup.Goals as goal

pub returns : goal.returns
returns c =
    rw (
      c.ldi.ensures.value,
      c.out.ensures.value,
      c.ldi-2.ensures.value,
      c.out-2.ensures.value,
      c.ldi-3.ensures.value,
      c.out-3.ensures.value,
      c.ldi-4.ensures.value,
      c.out-4.ensures.value,
      c.ldi-5.ensures.value,
      c.out-5.ensures.value,
      c.ldi-6.ensures.value,
      c.out-6.ensures.value,
      c.ldi-7.ensures.value,
      c.out-7.ensures.value,
      c.ldi-8.ensures.value,
      c.out-8.ensures.value,
      c.ldi-9.ensures.value,
      c.out-9.ensures.value,
      c.ldi-10.ensures.value,
      c.out-10.ensures.value,
      c.direction.ensures,
      c.direction-2.ensures,
      c.direction-3.ensures,
      c.direction-4.ensures,
    ) at c.put.ensures
