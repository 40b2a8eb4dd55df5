use Rattle.zen_app.proofs.generating.run_generate.Goals as goal

pub returns-in_default-write_all-clause-says : goal.returns-in_default-write_all-clause-says
returns-in_default-write_all-clause-says g c = rw (c.as_bytes.ensures, c.in-Ok-write_summary.ensures, c.new-text.ensures, c.in-Ok.ensures) at c.in_default-write_all.ensures.writes
