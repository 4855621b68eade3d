use Rattle.canonical.proofs.TextLaws.{written-is, written-reads}
use Rattle.canonical.proofs.contents.write_nest.Goals as goal

pub returns-clause-canonical : goal.returns-clause-canonical
returns-clause-canonical c = written-is _ _ (λ bytes. bytes.items) c.write_file.result c.file.ensures.same c.write_file.ensures

pub returns-clause-read : goal.returns-clause-read
returns-clause-read c = written-reads _ _ (λ bytes. bytes.items) c.write_file.result c.file.ensures.of_text c.file.ensures.same c.write_file.ensures
