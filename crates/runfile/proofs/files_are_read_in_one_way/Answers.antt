use Rattle.runfile.proofs.FileOnce.{said_has_no_fault, well_formed_has_no_fault, one_first_fault, one_run, said_is_well_formed}
use Rattle.runfile.proofs.files_are_read_in_one_way.Goals as goal

pub returns : goal.returns
returns c = record {
  said_well_formed = said_is_well_formed;
  well_formed_faultless = well_formed_has_no_fault;
  said_faultless = said_has_no_fault;
  fault = one_first_fault;
  run = one_run;
}
