use Rattle.drain_c.proofs.layout.drain_faults_layout.Goals as goal

pub returns-clause-places : goal.returns-clause-places
returns-clause-places c = cc (c.place.ensures, c.place-2.ensures, c.place-3.ensures, c.place-4.ensures, c.place-5.ensures, c.place-6.ensures, c.place-7.ensures, c.place-8.ensures, c.place-9.ensures, c.place-10.ensures, c.place-11.ensures, c.place-12.ensures, c.place-13.ensures, c.place-14.ensures, c.place-15.ensures)
