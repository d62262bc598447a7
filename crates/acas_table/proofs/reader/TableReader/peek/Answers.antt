use Rattle.acas_table.proofs.reader.TableReader.peek.Goals as goal

-- no entry is at hand, so none is next
pub returns-in_err-entry-clause-all : goal.returns-in_err-entry-clause-all
returns-in_err-entry-clause-all c = λ entry next. absurd (cc (c.in_err-entry.ensures.all entry next.source))
