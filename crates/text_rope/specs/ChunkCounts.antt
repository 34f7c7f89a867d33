-- The summary that the counts of a chunk are.
use Rattle.text_summary.specs.declared.summaries.Summary.{Summary}
use Rattle.text_rope.specs.declared.counts.ChunkCounts.{ChunkCounts}

-- the same numbers
abbrev pub summary_in : ChunkCounts → Summary
summary_in counts = record {
  len = counts.len;
  chars = counts.chars;
  utf16 = counts.utf16;
  lf = counts.lf;
  crlf = counts.crlf;
  lines = counts.lines;
  starts_lf = counts.starts_lf;
  ends_cr = counts.ends_cr;
}
