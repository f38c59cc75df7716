mod AreaLemmas
mod FilledLemmas
mod ImageLemmas
mod KeptLemmas
mod RecordLemmas
mod SaidLemmas
mod VerdictLemmas
mod WriteLemmas
mod WrittenLemmas
pub mod TextLemmas
