use Rattle.std.proofs.Common.{rules, ◌≡◌, ◌≤◌, length, Some, None, arith, ap}
use Rattle.texts.specs.declared.limits.TheConstants.{LINE_BYTES}
use Rattle.ld_text.specs.Place.{said_in}
use Rattle.ld_text.specs.Reading.{next, place_of, standing_of, word_fault}
use Rattle.ld_text.proofs.StandLemmas.{not_long, only_said, word_stops}
use Rattle.ld_text.proofs.reader.Reader.take_line.Goals as goal

pub returns-in-Some-clause-stops : goal.returns-in-Some-clause-stops
returns-in-Some-clause-stops c =
    let r = c.args.self.now in
    let said = c.in_ok-heard.heard.said in
    let short : length r.line.items ≤ LINE_BYTES = omega (arith, ap length c.as_slice.ensures.value, c.as_slice.ensures.fits) in
    let heard : said ≡ said_in (place_of r).site (next r.counts.lines) r.line.items = search rules in
    let fault : word_fault (place_of r) (next r.counts.lines) r.line.items said ≡ Some c.in-Some.fault = search rules in
    word_stops (next r.counts.lines) r.line.items c.args.size (standing_of r) said c.in-Some.fault (not_long (length r.line.items) short) heard fault

pub take_said-requires-clause-fault : goal.take_said-requires-clause-fault
take_said-requires-clause-fault c =
    let r = c.args.self.now in
    let said = c.in_ok-heard.heard.said in
    let short : length r.line.items ≤ LINE_BYTES = omega (arith, ap length c.as_slice.ensures.value, c.as_slice.ensures.fits) in
    let none : word_fault (place_of r) c.number-number.result r.line.items said ≡ None = search rules in
    only_said (place_of r) c.number-number.result r.line.items c.args.size said (not_long (length r.line.items) short) none
