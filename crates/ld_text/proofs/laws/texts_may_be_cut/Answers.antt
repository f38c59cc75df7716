use Rattle.std.proofs.Common.{◌+◌, arith}
use Rattle.std.proofs.lemmas.List.{take_all}
use Rattle.texts.specs.declared.limits.TheConstants.{FILE_BYTES}
use Rattle.ld_text.proofs.CutLemmas.{refused_alike}
use Rattle.ld_text.proofs.laws.texts_may_be_cut.Goals as goal

pub returns-clause-short : goal.returns-clause-short
returns-clause-short c text h = take_all (FILE_BYTES + 1) text (omega (arith, h))

pub returns-clause-long : goal.returns-clause-long
returns-clause-long c = refused_alike
